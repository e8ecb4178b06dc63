-- The server of the round trips, which answers each number with itself.
pub mod Echoes
