-- Lemmas of blocks.
pub mod Numbers
pub mod Sizes
pub mod RowLemmas
pub mod Crops
pub mod Elements
pub mod Good
pub mod Only
pub mod Unbroken
pub mod ValueLemmas
