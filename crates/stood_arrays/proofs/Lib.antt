pub mod StandingLemmas
pub mod Logs
pub mod Moves
