-- Definitions for steps: texts in parts, blocks that are asked for, and places that name a block.
pub mod Parts
pub mod Asked
pub mod Named
