pub mod BelowLemmas
pub mod SmallLemmas
pub mod InsideLemmas
pub mod DrawnLemmas
pub mod MakesLemmas
