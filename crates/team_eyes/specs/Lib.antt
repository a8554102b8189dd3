pub mod Holding
pub mod Teammate
pub mod TeammateLaws
pub mod Shown
pub mod Runs
