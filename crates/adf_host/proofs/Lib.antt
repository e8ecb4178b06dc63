-- Lemmas on images that are read piece by piece; on dates, on names of host files, and on the order in which they are written.
mod Sketching
mod DateLemmas
mod NameLemmas
mod NoteLemmas
pub mod Ordering
