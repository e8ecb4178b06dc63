-- Images that are read piece by piece.
use Rattle.std.specs.Prelude.{ℕ, ◌≡◌, ◌*◌, List, length, Option}
use Rattle.adf_block.specs.declared.layout.TheConstants.{BLOCK_BYTES}
use Rattle.adf_io.specs.Load.{ReadsAll}

-- these are all bytes of the reader up to its end, and they are this many blocks
pub record ReadsBlocks (blocks : ℕ) (old new : Option (List ℕ)) (image : List ℕ) : Type 0 where
  pub all : ReadsAll old new image
  pub size : length image ≡ BLOCK_BYTES * blocks
