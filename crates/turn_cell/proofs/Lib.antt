pub mod Leading
pub mod Keeping
pub mod Taking
pub mod Giving
pub mod Joining
pub mod Ending
pub mod Asking
