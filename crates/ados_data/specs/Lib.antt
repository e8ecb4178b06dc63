-- Files as lists of bytes: when a file can be changed, and what a change leaves untouched. The number of blocks for a
-- size and the file in its blocks are in `ados_model`.
pub use Rattle.ados_model.specs.Tree
pub use Rattle.ados_model.specs.Parts
pub use Rattle.ados_model.specs.File
pub mod Place
pub mod Changing
pub mod Order
pub mod Others
pub mod Sums
pub mod Unnamed
pub mod Growth
pub mod Cut
pub mod steps
