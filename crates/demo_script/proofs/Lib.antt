pub mod EditsLemmas
pub mod ScriptLemmas
pub mod SumLemmas
