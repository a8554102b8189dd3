pub mod Entries
pub mod Counts
pub mod Standing
pub mod Opening
pub mod Pyramid
pub mod Licenses
pub mod Moves
