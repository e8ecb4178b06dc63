-- Definitions for steps: what is before a line of a bundle's text, and the paths of its first entries; and lost blocks by the owners of all.
pub mod Lines
pub mod Losing
