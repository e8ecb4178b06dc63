-- Links, a change of one link, the order of a directory, walks and their results. `Kept` is for the crates above.
pub mod Common
pub mod Spelling
pub mod Framing
pub mod Chaining
pub mod Changes
pub mod Order
pub mod Walks
pub mod Found
pub mod Kept
