-- Lemmas of the laws.
mod Rows
mod Each
mod Entries
mod Written
mod Pieces
mod Commands
mod Nearest
mod Phases
mod Editing
mod Still
mod Slices
mod Arrays
mod Views
mod Scenes
mod NoPictures
mod Playing
pub mod Showing
mod Splitting
mod Replies
pub mod Answering
