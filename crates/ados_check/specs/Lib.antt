-- What a check reads (a source of blocks, and what a sketch keeps), its marks, and its result. `ados_model` defines
-- when an image is accepted. Definitions for steps inside are in `steps`.
pub mod Marks
pub mod Laws
pub mod Source
pub mod Kept
pub mod Keeping
pub mod Pieces
pub mod PlacesTold
pub mod Rules
pub mod Evidence
pub mod DataRules
pub mod Entries
pub mod Answer
pub mod BitmapTold
pub mod steps
