-- Lists of keys and of nodes. An image represents at most one tree, shows no fault then, and marks as many blocks free
-- as its tree leaves. A blank image represents the tree of an empty root, and the two images written out represent their
-- trees.
pub mod Common
pub mod KeyLists
pub mod Lists
pub mod Nodes
pub mod OneTree
pub mod Standing
pub mod FileBlocks
pub mod FileFaults
pub mod NoFaults
pub mod Blank
pub mod Blocks
pub mod BlankWork
pub mod Totals
pub mod Counting
mod SmallBelow
mod SmallRows
pub mod SmallNodes
mod SmallDuties
mod SmallFields
mod SmallImages
