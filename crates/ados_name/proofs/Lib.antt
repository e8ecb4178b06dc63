-- Lemmas for the functions of each module, in the order of the definitions.
mod Common
pub mod NameLemmas
mod PathLemmas
pub mod SeparatorLemmas
mod ProtectionLemmas
mod DateLemmas
mod ShortTextLemmas
