-- The memory that a handle or a salvage owns, the result of a call by those of its parts, the blocks that differ, read-only handles, and
-- calls one after another.
pub mod LooseValues
pub mod HandleValues
pub mod HandleWalks
pub mod Handles
pub mod Coming
pub mod Changing
pub mod Guarding
pub mod Saving
pub mod History
pub mod Owning
pub mod Finding
