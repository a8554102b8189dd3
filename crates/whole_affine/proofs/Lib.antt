pub mod Division
pub mod Carrying
pub mod Coordinates
pub mod Rows
pub mod Stretches
pub mod Turning
pub mod Offsets
