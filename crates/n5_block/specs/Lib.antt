pub mod Block
pub mod Rules
pub mod Rows
pub mod Values
pub mod Laws
