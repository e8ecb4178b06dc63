-- Contracts of the lengths of images, of their sketches, of the names of temporary files, and of directories that are held open.
-- Then definitions for names, paths and dates of host files, and for the order in which they are written.
pub mod Beside
pub mod Held
pub mod Images
pub mod New
pub mod Sketched
pub mod Dates
pub mod Notes
pub mod Order
pub mod Paths
pub mod Writing
