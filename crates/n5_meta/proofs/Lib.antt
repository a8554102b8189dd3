mod AlikeLemmas
mod AskLemmas
mod DecideLemmas
mod GetLemmas
pub mod LoopLemmas
mod OpenLemmas
pub mod Prefixes
mod PyramidLemmas
mod ValueLemmas
