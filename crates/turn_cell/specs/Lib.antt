pub mod Entry
pub mod PassView
pub mod Rule
pub mod Seats
pub mod Plays
pub mod Turn
