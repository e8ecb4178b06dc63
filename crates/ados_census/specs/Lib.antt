-- Definitions for the census: which longs are namings, and the namings of a block; which blocks are reached, and the places of
-- reached blocks that name a block; and blocks that hold a filler. Definitions for steps are in `steps`.
pub mod Classes
pub mod Fillers
pub mod Namings
pub mod Reached
pub mod Places
pub mod steps
