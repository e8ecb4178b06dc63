-- Lemmas about the output of a client so far, and about clients separated from their ends and joined again. Histories
-- and lists follow the tree. After death nothing changes, and an output says that the port is closed only after death.
pub mod Common
pub mod Said
pub mod Joining
pub mod Following
pub mod Resting
mod Weaker
pub mod Runs
pub mod Closed
pub mod Serving
mod SameTrees
pub mod SameAnswers
pub mod SameRuns
mod SameOutcomes
