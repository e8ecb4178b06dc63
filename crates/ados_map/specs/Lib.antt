-- The bitmap: its blocks, their longs, and changes of them.
pub mod Pages
pub mod Bits
pub mod Changes
