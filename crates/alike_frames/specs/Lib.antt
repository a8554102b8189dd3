pub mod Frames
pub mod Servings
