pub mod Headlines
pub mod Frames
pub mod Run
pub mod Carried
pub mod Opened
pub mod Stage
pub mod Ended
