pub mod FrameLemmas
pub mod GridLemmas
pub mod OneToOne
pub mod PyramidLemmas
