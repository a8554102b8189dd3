pub mod Asking
pub mod Fronts
pub mod Levels
pub mod Pins
