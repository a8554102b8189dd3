pub mod CommandsLemmas
mod DraftLemmas
mod LastLemmas
mod LimitsLemmas
mod LineLemmas
mod LinesLemmas
mod NameLemmas
mod NamesLemmas
mod NumberLemmas
mod ReadingLemmas
mod SplitLemmas
mod TakenLemmas
mod ViewLineLemmas
mod ViewsLemmas
mod WordsLemmas
