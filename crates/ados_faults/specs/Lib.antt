-- The list of all faults, the long that shows a fault, and the text of a fault. Definitions for the walk are in
-- `steps`.
pub mod Listed
pub mod Values
pub mod Explained
pub mod steps
