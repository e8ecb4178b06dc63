-- Definitions for steps of a change of entries: the block of a new entry, the bytes that each step writes, and an
-- entry emptied before its removal.
pub mod Making
pub mod Writes
pub mod Footprint
pub mod Emptied
