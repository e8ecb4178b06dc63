-- Definitions of the headline: packets and answers; the tree, its changes, and when an image represents it; locks and
-- handles, and the meaning of packets. Then the faults of an image that represents no tree, the fields of a block, and
-- images that represent their trees.
pub mod Packet
pub mod Actions
pub mod Tree
pub mod Parts
pub mod Change
pub mod Edits
pub mod Stands
pub mod File
pub mod Keys
pub mod Session
pub mod Codes
pub mod Objects
pub mod Reads
pub mod Resolved
pub mod Refusals
pub mod Success
pub mod Meaning
pub mod Phrases
pub mod DiskDate
pub mod Faults
pub mod Rebuilt
pub mod Accepted
pub mod Kept
pub mod Blank
pub mod Laws
pub mod Written
pub mod Small
