-- Definitions for steps: the results of a packet's method, its places, opening and writing of files, moves of objects, new locks,
-- the table of holds and its positions, replies that close, and what objects, places and handles allow.
pub mod Methods
pub mod Places
pub mod NoRow
pub mod Table
pub mod Positions
pub mod NewLock
pub mod Opening
pub mod Files
pub mod Moves
pub mod Closes
pub mod Allowed
