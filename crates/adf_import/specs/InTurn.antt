-- Changes of an image's tree, one after the other, and what they leave untouched.
use Rattle.std.specs.Prelude.{◌≡◌, ℕ, ◌*◌, List, [], ◌∷◌, ◌++◌, length}
use Rattle.adf_block.specs.Image.{bytes_at}
use Rattle.adf_block.specs.declared.layout.TheConstants.{BOOT_BLOCKS, BLOCK_BYTES}
use Rattle.ados_model.specs.Keys.{HasTree}
use Rattle.ados_model.specs.Stands.{Stands}
use Rattle.ados_model.specs.Tree.{Tree}
use Rattle.ados_change.specs.NewBlocks.{KeepsRest}
use Rattle.ados_change.specs.Untold.{KeepsPastEnd}

-- an image goes through these changes of its tree, one after the other; each leads to an image that represents the
-- changed tree, and keeps the rest of the image before it
pub data GoesThrough : List (Tree → Tree) → List ℕ → List ℕ → Type 0 where
  none : {image : List ℕ} → GoesThrough [] image image
  one_more : (steps : List (Tree → Tree)) (step : Tree → Tree) {old between new : List ℕ}
      → GoesThrough steps old between → ((t : Tree) → Stands between t → Stands new (step t)) → KeepsRest between new
      → HasTree new → GoesThrough (steps ++ step ∷ []) old new

-- the parts of an image outside its tree: the size, the boot blocks, and the bits past the volume's end
pub record KeepsOutside (old new : List ℕ) : Type 0 where
  pub size : length new ≡ length old
  pub boot : bytes_at new 0 0 (BOOT_BLOCKS * BLOCK_BYTES) ≡ bytes_at old 0 0 (BOOT_BLOCKS * BLOCK_BYTES)
  pub past_end : KeepsPastEnd old new

-- Law: any sequence of changes keeps the parts outside the tree.
abbrev pub OutsideStays : Type 0
OutsideStays = (steps : List (Tree → Tree)) (old new : List ℕ) → GoesThrough steps old new → KeepsOutside old new
