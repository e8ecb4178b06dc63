-- Numbers of each block, side by side.
use Rattle.std.specs.Prelude.{◌≡◌, ℕ, ◌<◌, List, length, slice_index}
use Rattle.adf_block.specs.Image.{block_count, long}
use Rattle.adf_block.specs.declared.layout.TheConstants.{FIRST_POINTER, NEXT_EXTENSION}
use Rattle.ados_model.specs.Faults.{pointers_of}

-- the list has this number of each block of the image
pub record AreOfEach (image : List ℕ) (number : ℕ → ℕ) (numbers : List ℕ) : Type 0 where
  pub size : length numbers ≡ block_count image
  pub each : (block : ℕ) → block < block_count image → slice_index numbers block ≡ number block

-- the list has this long of each block of the image
abbrev pub AreLongs : List ℕ → ℕ → List ℕ → Type 0
AreLongs image i longs = AreOfEach image (λ block. long image block i) longs

-- of each block the next extension block, the number of data blocks in its pointers, and the first pointer
pub record AreTabled (image : List ℕ) (nexts counts firsts : List ℕ) : Type 0 where
  pub nexts_are : AreLongs image NEXT_EXTENSION nexts
  pub counts_are : AreOfEach image (λ block. length (pointers_of image block)) counts
  pub firsts_are : AreLongs image FIRST_POINTER firsts
