-- Definitions for steps inside a call.
pub mod Edits
pub mod Blocks
pub mod FileEnd
pub mod Giving
