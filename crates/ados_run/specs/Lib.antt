-- The results of runs of steps and of scripts at a handler, in terms of the tree that its image represents; the result
-- of a client's packet, and the output of clients' scripts.
pub mod Asking
pub mod Scripts
pub mod Runs
pub mod TreePort
pub mod TreeLists
pub mod Keeping
pub mod Refused
pub mod ServesVolume
pub mod Laws
pub mod Replays
pub mod steps
