-- Definitions for steps: how a search for images goes on.
pub mod Adding
