pub mod Pieces
pub mod Voxels
