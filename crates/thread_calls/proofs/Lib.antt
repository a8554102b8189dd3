-- Lemmas of the call by threads.
mod WordLemmas
mod RunLemmas
mod HeadlineLemmas
mod DemoLemmas
mod MadeLemmas
mod DecidedLemmas
