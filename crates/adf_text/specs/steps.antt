-- Definitions for steps: the results of parts of the readers for dates and lines.
pub mod Finds
pub mod Parts
