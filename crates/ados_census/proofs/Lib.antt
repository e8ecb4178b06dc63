-- The numbers that pass a test, below a bound; longs that are namings; namings while they are sorted; marks of blocks; reached
-- blocks while they are found; the places that name a block while they are found; texts again and again, and the bytes of data
-- blocks.
pub mod Below
mod Mending
pub mod NamedLongs
pub mod Sorting
mod Insides
pub mod Marking
mod Reaching
mod Entries
mod Placing
mod Repeating
mod DataBytes
