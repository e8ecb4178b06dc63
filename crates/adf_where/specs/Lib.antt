-- Who owns a block: of an image that is accepted, and of one that is not. Definitions for steps are in `steps`.
pub mod Unread
pub mod Where
pub mod Faulty
pub mod Own
pub mod Refused
pub mod BlockMap
pub mod FaultyMap
pub mod steps
