-- From a script to its output: its lines, their packets, the values and the text of replies, and the output of a whole
-- script, at its own port and among other clients. Definitions for steps are in `steps`.
pub use Rattle.ados_model.specs.Packet
pub use Rattle.ados_port.specs.History
pub use Rattle.ados_port.specs.Lawful
pub mod Lines
pub mod Pieces
pub mod Values
pub mod Grammar
pub mod Text
pub mod Packets
pub mod Told
pub mod Ran
pub mod Next
pub mod Spoken
pub mod Streams
pub mod steps
