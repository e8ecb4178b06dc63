-- Definitions for steps: the ends of a port over a volume, opened and gathered.
pub mod Gathered
