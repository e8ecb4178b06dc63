-- The packets with texts, by the number of their texts.
pub mod Texts
