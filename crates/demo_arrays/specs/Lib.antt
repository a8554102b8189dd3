pub mod Drawn
pub mod Held
pub mod Laws
