-- Overwritten lists, longs and their sums, what a partial change leaves untouched, and writes of a whole block or a
-- part.
mod Common
pub mod Bytes
pub mod Longs
pub mod Totals
pub mod Frames
pub mod Blocks
pub mod Putting
pub mod Booting
pub mod Coding
pub mod Showing
