-- Lemmas about the words, parts, fields and numbers of lines, and about the output of a script so far.
pub mod Common
pub mod Splitting
pub mod LineLemmas
pub mod Numerals
pub mod FieldLemmas
pub mod WordList
pub mod Quiet
pub mod Pushing
pub mod Telling
pub mod OneRun
