pub mod Queue
pub mod Ranking
pub mod Requests
pub mod Ranks
pub mod Queues
