-- The faults of arguments, arguments that are dates or name blocks, lists of blocks that could not be read, the changes and boot
-- blocks that arguments ask for, and the forms of a list and of a map. The meaning of the rest of the command line is in its types.
pub mod Given
pub mod When
pub mod Asked
pub mod Lists
pub mod Maps
pub mod Blocks
pub mod BadBlocks
