-- Entries that a damaged image names, and that have no header that can be told.
use Rattle.std.specs.Prelude.{ℕ, List, Contains}
use Rattle.adf_block.specs.Image.{block_count, IsInside}
use Rattle.ados_salvage.specs.Doubtful.{IsHeader, IsNamedIn}

-- the block is named as an entry of some directory
abbrev pub IsNamed : List ℕ → List ℕ → ℕ → Type 0
IsNamed out image block = (dir : ℕ) × IsNamedIn out image dir block

-- a lost entry: a block that is named as an entry, and is neither a sound header nor a doubtful one; none that is left out
pub record IsLost (out image : List ℕ) (block : ℕ) : Type 0 where
  pub inside : IsInside (block_count image) block
  pub named : IsNamed out image block
  pub untold : ¬ IsHeader out image block
  pub kept : ¬ Contains out block
