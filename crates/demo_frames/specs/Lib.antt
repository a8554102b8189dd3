pub mod Edited
pub mod Pictures
pub mod Showing
pub mod Answers
