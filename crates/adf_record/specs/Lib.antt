-- The facts of a volume, as text and as a JSON object; bundles, and their text; and members of JSON objects, as tokens.
pub mod Members
pub mod Bundle
pub mod Second
pub mod Counts
pub mod Lost
pub mod Facts
pub mod Shown
pub mod Object
pub mod BootObject
pub mod Forms
pub mod Described
pub mod steps
