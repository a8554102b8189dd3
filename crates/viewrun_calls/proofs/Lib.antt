-- Lemmas of the call.
pub mod AlikeLemmas
mod KeyLemmas
mod LogLemmas
mod PictureLemmas
mod PutLemmas
mod RunLemmas
mod SourceLemmas
pub mod StoresLemmas
pub mod ViewLemmas
mod WrittenLemmas
mod CalledLemmas
mod OpenLemmas
mod OneLemmas
mod CleanLemmas
mod HeadlineLemmas
