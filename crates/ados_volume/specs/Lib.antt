-- What contracts see of a volume, of the entries below a directory and of the owners of blocks, and the results of its calls. Definitions for steps are in `steps`.
pub mod Shown
pub mod Checked
pub use Rattle.ados_model.specs.Objects
pub use Rattle.ados_model.specs.Reads
pub mod Order
pub mod Refused
pub mod Refusals
pub mod Located
pub mod Below
pub mod Paths
pub mod Owners
pub mod steps
