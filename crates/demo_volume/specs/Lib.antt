pub mod Below
pub mod Voxels
pub mod Levels
pub mod Cells
pub mod Maker
pub mod Puts
