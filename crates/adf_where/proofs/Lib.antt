-- Lemmas about owned blocks, their paths, the faults and the places of a block, a loop over a `zip`, and texts in parts.
pub mod Common
pub mod Belonging
pub mod FaultsThere
mod AskedPlaces
mod Deep
mod Leaving
mod Mapping
mod Numbered
mod Objects
mod Parts
mod Passing
mod TellingFaulty
mod TellingOwned
mod Zipped
