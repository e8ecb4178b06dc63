-- Definitions for steps: the object that a part of a path leads to, and places in a new volume.
pub mod Reached
pub mod Spots
