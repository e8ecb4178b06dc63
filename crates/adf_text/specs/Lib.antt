-- Letters of bytes, escapes, texts for people, names of host files, letters of protection bits, dates at the start of a text,
-- dates and protection bits as a person writes them, and the notes beside files, written and read. Definitions for steps are in `steps`.
pub mod Letters
pub mod Escapes
pub mod Plain
pub mod HostNames
pub mod ProtectionLetters
pub mod Dated
pub mod Written
pub mod ProtectWords
pub mod Uaem
pub mod UaemReads
pub mod steps
pub mod Ranges
