-- The floppy for the program's script and the script's output; lists of blocks that could not be read; the output of commands for
-- images and for refusals, the messages of their faults, the boot blocks that they install, the images that they make, the texts of the
-- clients that they serve, and how they and a command line end.
pub mod Script
pub mod Unread
pub mod Texts
pub mod Asked
pub mod Refusals
pub mod Explained
pub mod Faults
pub mod Archives
pub mod Reports
pub mod Rescues
pub mod Deleted
pub mod Mapped
pub mod Placed
pub mod Boot
pub mod Changed
pub mod NewImages
pub mod Served
pub mod Commands
