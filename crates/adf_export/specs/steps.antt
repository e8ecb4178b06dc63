-- Definitions for steps: the rank of an entry in an order, the position of a listing, and the result of one step of it.
pub mod Ranked
pub mod Levels
pub mod Going
pub mod NamesDown
