pub mod Zipping
pub mod Rising
pub mod Acting
pub mod LostLemmas
pub mod Readying
pub mod Played
pub mod AllPlayed
