pub mod Membership
pub mod Paths
pub mod Rows
pub mod Whole
pub mod Taken
pub mod Calls
