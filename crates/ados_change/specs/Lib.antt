-- The effect of each change on the tree, when it is possible, what it leaves untouched in the image and which blocks it
-- takes: fields of a node, bytes of a file, entries of a directory. Definitions for steps are in `steps`.
pub mod Places
pub mod FieldTold
pub mod Renewed
pub mod Stamps
pub mod Cuts
pub mod Conditions
pub mod Kinds
pub mod AfterName
pub mod Laws
pub mod Untold
pub mod NewBlocks
pub mod steps
