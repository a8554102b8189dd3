pub mod Filling
pub mod Lanes
pub mod Ones
pub mod Shown
