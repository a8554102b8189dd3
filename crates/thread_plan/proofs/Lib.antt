pub mod SceneLemmas
pub mod LimitLemmas
pub mod CountLemmas
