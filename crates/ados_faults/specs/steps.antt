-- The search for all faults, step by step.
pub mod Noted
pub mod Roles
pub mod Walked
pub mod Blocks
pub mod Chain
pub mod Named
pub mod FileNotes
pub mod Longs
pub mod Tails
pub mod Looks
pub mod Searched
