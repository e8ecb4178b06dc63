-- Lemmas about archives.
pub mod Common
pub mod Chunks
pub mod Climbing
pub mod Gathered
pub mod Listed
pub mod Marking
pub mod Naming
pub mod Searching
pub mod Shown
pub mod Sizes
pub mod Suspecting
pub mod Whole
