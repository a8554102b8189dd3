pub mod Drawn
pub mod Teams
