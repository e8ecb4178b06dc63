-- Lemmas about the blank floppy, the output of a script over it, the answer that a command takes, the marks of a list, the output for
-- an image, and changes and clients of a volume.
pub mod Floppy
pub mod Telling
pub mod Marks
pub mod Clients
pub mod Printing
pub mod Denied
pub mod Deleting
pub mod Bitmaps
pub mod Asked
