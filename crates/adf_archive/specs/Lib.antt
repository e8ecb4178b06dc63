-- Many checked images: the files that arguments and lists name, the report on one, the output for all, and how the check ends.
pub mod Words
pub mod Endings
pub mod Paths
pub mod Owned
pub mod Suspects
pub mod FileTypes
pub mod Report
pub mod Lines
pub mod Objects
pub mod Each
pub mod NameLists
pub mod Status
pub mod Archive
pub mod Laws
pub mod steps
