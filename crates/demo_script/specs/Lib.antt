pub mod Script
pub mod Sum
pub mod Line
