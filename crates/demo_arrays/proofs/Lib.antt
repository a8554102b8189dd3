-- Lemmas of the laws.
mod ListLemmas
mod LevelLemmas
mod CutLemmas
mod PlaceLemmas
mod ValueLemmas
mod StandingLemmas
pub mod HeldLemmas
pub mod DrawnLemmas
mod KeyLemmas
mod AllKeys
mod PutLemmas
mod MadeLemmas
pub mod HoldsLemmas
