-- The blocks given to broken files.
use Rattle.std.specs.Prelude.{◌≡◌, ℕ, ◌<◌, Bool, true, false, List, length, All}
use Rattle.adf_block.specs.Image.{block_count}
use Rattle.ados_salvage.specs.Marks.{IsHole, mark_at}
use Rattle.ados_salvage.specs.declared.giving.Giving.{Giving}
use Rattle.ados_salvage.specs.declared.giving.Piece.{Piece}
use Rattle.ados_salvage.specs.Salvaged.{AreApart}

-- a block that can still be given
pub record IsOpen (given : List Bool) (block : ℕ) : Type 0 where
  pub inside : block < length given
  pub free : mark_at given block ≡ false

-- a block of the image that is marked
pub record IsMarked (given : List Bool) (piece : Piece) : Type 0 where
  pub inside : piece.block < length given
  pub marked : mark_at given piece.block ≡ true

-- each hole is marked
abbrev pub AreHolesMarked : List Bool → List Bool → Type 0
AreHolesMarked holes given = (block : ℕ) → block < length given → IsHole holes block → mark_at given block ≡ true

-- there is a mark for each block, and each given block is marked and given once; the holes are marked and not given
pub record IsGiving (holes : List Bool) (image : List ℕ) (giving : Giving) : Type 0 where
  pub size : length giving.given.items ≡ block_count image
  pub holes_marked : AreHolesMarked holes giving.given.items
  pub there : All (λ piece. ¬ IsHole holes piece.block) giving.pieces.items
  pub passed : length giving.passed.items ≡ block_count image
  pub marked : All (IsMarked giving.given.items) giving.pieces.items
  pub once : AreApart giving.pieces.items
