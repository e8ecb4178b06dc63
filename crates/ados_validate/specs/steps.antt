-- Steps of `validate`.
pub mod Kept
pub mod Settled
pub mod Cautious
