pub mod BigEndianLemmas
pub mod BoxLemmas
