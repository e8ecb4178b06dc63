-- The text of a volume, and its entries as files of the host. Definitions for steps are in `steps`.
pub mod InfoObject
pub mod Info
pub mod Objects
pub mod Ordered
pub mod Listing
pub mod Words
pub mod Printing
pub mod Items
pub mod Bytes
pub mod steps
