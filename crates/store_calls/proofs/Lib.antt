pub mod Composed
pub mod Parts
pub mod Dues
pub mod Holds
pub mod Leaving
