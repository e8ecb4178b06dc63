-- Lemmas on consecutive reads, on input of which the first bytes are kept, and on consecutive writes.
mod Parts
mod Inputs
mod Puts
pub mod Prefixes
pub mod Telling
pub mod Outcomes
