-- The bits of a long in the bitmap, bitmap blocks that change and stay lawful, and counts of bits.
pub mod Common
pub mod BitLemmas
pub mod PageLemmas
pub mod MarkLemmas
mod Counting
mod Begun
