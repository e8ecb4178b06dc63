-- Lemmas about tokens, about texts in pieces, about the entries of a bundle, about the lines of its text, about equal lists, and about numbers of blocks.
pub mod Common
pub mod Tokens
pub mod Pieces
pub mod Entries
pub mod Lines
pub mod Mapped
pub mod Written
pub mod Numbering
pub mod Losing
