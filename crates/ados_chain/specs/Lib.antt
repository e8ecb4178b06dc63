-- The hash chains of a directory, the results of reads, changes of a chain, and the links in it. What follows a key is
-- in `ados_model`.
pub mod Chains
pub use Rattle.ados_model.specs.Tree
pub use Rattle.ados_model.specs.Parts
pub mod Look
pub mod Relinks
pub mod Links
