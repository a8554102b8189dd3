pub mod Phasing
pub mod Teaming
