pub mod Order
pub mod Recency
