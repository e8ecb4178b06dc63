-- What is kept of input, what is loaded, what a failed load says, and what a failed writer wrote. Definitions for steps are in `steps`.
pub mod Input
pub mod Load
pub mod Loaded
pub mod Prefix
pub mod steps
