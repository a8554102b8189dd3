pub mod Calls
pub mod Faults
pub mod Held
pub mod MemStore
pub mod Pieces
pub mod Store
pub mod Stream
