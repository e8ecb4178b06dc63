-- Definitions for steps: single reads.
pub mod Reads
