-- What is saved of a damaged image, and deleted entries. Definitions for steps are in `steps`.
pub mod Paths
pub mod Missing
pub mod Reasons
pub mod Rescue
pub mod RescueObject
pub mod DeletedObject
pub mod Undelete
pub mod Untrusted
pub mod BlockRuns
pub mod Unaccounted
pub mod steps
