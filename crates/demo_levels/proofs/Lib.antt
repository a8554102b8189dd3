-- Lemmas of the law.
pub mod ReadLemmas
