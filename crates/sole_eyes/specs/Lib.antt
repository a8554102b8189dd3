pub mod Steps
pub mod SoleEyes
pub mod SoleLaws
