-- Lemmas for the functions of each module, in the order of the definitions.
mod Common
pub mod LettersLemmas
mod EscapesLemmas
mod PlainLemmas
pub mod HostLemmas
mod ProtectionLettersLemmas
mod DatedLemmas
mod UaemLemmas
mod ReadsLemmas
mod WrittenLemmas
