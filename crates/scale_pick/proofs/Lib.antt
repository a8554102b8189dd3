pub mod NoteLemmas
pub mod WantedLemmas
pub mod PaintedLemmas
pub mod CompleteLemmas
pub mod MomentLemmas
pub mod ShadeLemmas
pub mod Running
