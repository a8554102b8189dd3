pub mod Run
pub mod Demo
pub mod Work
pub mod Headline
pub mod Ending
pub mod Decided
pub mod Call
