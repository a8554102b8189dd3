pub mod Budget
pub mod Asked
pub mod Requests
pub mod StrategyRule
pub mod Front
pub mod Looks
pub mod Showing
