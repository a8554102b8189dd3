pub mod Asks
pub mod File
pub mod Keys
pub mod Laws
pub mod Standing
