pub mod Orders
pub mod Walks
pub mod Counts
pub mod Victims
