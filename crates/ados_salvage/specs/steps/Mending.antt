-- Blocks that may be put right, while they are found.
use Rattle.std.specs.Prelude.{◌≡◌, ℕ, ◌<◌, ◌↔◌, Bool, IsTrue, List, length}
use Rattle.adf_block.specs.Image.{long}
use Rattle.ados_salvage.specs.Doubtful.{IsPlaceIn, NamesEntries}
use Rattle.ados_salvage.specs.Marks.{mark_at}

-- there is a mark for each block, right for this property
pub record AreMarksFor (P : ℕ → Type 0) (count : ℕ) (marks : List Bool) : Type 0 where
  pub size : length marks ≡ count
  pub decided : (block : ℕ) → block < count → IsTrue (mark_at marks block) ↔ P block

-- the long of the holder is a place for entries of some directory, and names the block
abbrev pub NamesAt : List ℕ → ℕ → ℕ → ℕ → Type 0
NamesAt image holder at block = (dir : ℕ) × IsPlaceIn image dir holder at × (long image holder at ≡ block)

-- the holder can name entries, and names the block
abbrev pub NamesSome : List ℕ → List ℕ → ℕ → ℕ → Type 0
NamesSome out image holder block = NamesEntries out image holder × ((at : ℕ) × NamesAt image holder at block)
