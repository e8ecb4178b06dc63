-- What is found of a text.
pub mod Finding
-- What is asked for: the only argument, and arguments of which at most one is `-`.
pub mod Asking
-- What is read of arguments that name blocks.
pub mod Naming
-- The lines of a list of bad blocks, and the marks of these blocks.
pub mod BadLines
pub mod Marking
