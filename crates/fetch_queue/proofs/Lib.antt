pub mod Filters
pub mod Own
pub mod Requests
pub mod Taking
pub mod Firsts
pub mod Moves
pub mod Views
pub mod Clears
