-- Paths that are looked up, items that are added, what is written, the report while it is written, and runs of blocks.
pub mod Asking
pub mod Reporting
pub mod Sourcing
pub mod Running
pub mod Writing
