-- Lemmas about asked paths, items whose names differ, the runs of missing data blocks, the reasons of entries, the objects of a report, and runs of blocks.
mod TellingObjects
mod Asking
mod Sourcing
mod GivenNumbers
mod Marks
mod Runs
mod Doubting
mod Running
mod Values
