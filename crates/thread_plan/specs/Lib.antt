pub mod Parts
pub mod Scenes
pub mod Limits
pub mod Counts
