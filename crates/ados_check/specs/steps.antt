-- Steps of the walk over the reached blocks, and of the check of one file.
pub mod Reaching
pub mod Files
