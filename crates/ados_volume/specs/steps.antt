-- Definitions for steps: a step of a walk, the caches of names, places and listed entries, what holds of a volume, the
-- parts of a blank image, the stack of a walk over everything below a directory, and the owners found so far.
pub mod PathStep
pub mod Cache
pub mod Places
pub mod Listed
pub mod SoundVolume
pub mod BlankParts
pub mod Stack
pub mod Owning
