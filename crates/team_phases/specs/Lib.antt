pub mod Phases
pub mod Plays
pub mod Changes
pub mod Working
pub mod Playing
