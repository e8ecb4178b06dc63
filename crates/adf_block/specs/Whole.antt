-- Which bytes are an image, the number of its free blocks, and a text of a block.
use Rattle.std.specs.Prelude.{◌≡◌, ℕ, ◌+◌, ◌-◌, ◌*◌, ◌<◌, ◌≤◌, IsTrue, List, length, slice_index, if◌then◌else◌}
use Rattle.adf_block.specs.declared.layout.TheConstants.{FEWEST_BLOCKS, MOST_BLOCKS, BOOT_BLOCKS, BLOCK_BYTES}
use Rattle.adf_block.specs.Image.{block_count, byte_at, bytes_at, total, has_free_bit}

-- a volume may have n blocks
abbrev pub IsSize : ℕ → Type 0
IsSize n = (FEWEST_BLOCKS ≤ n) × (n ≤ MOST_BLOCKS)

-- block b is marked free
abbrev pub HasFreeBit : List ℕ → ℕ → Type 0
HasFreeBit image b = IsTrue (has_free_bit image b)

-- the list is whole blocks, and a volume may have that many
pub record IsWhole (bytes : List ℕ) : Type 0 where
  pub blocks : ℕ
  pub size : IsSize blocks
  pub whole : length bytes ≡ BLOCK_BYTES * blocks

-- an image: whole blocks, as many as a volume may have, and each element is a byte
pub record IsImage (bytes : List ℕ) : Type 0 where
  pub blocks : ℕ
  pub size : IsSize blocks
  pub whole : length bytes ≡ BLOCK_BYTES * blocks
  pub byte : (i : ℕ) → slice_index bytes i < 256

-- the number of blocks after the boot blocks that are marked free
abbrev pub free_bit_count : List ℕ → ℕ
free_bit_count image =
    total (λ k. if has_free_bit image (k + BOOT_BLOCKS) then 1 else 0) (block_count image - BOOT_BLOCKS)

-- the text whose length is byte i and which starts at byte i + 1
abbrev pub text_at : List ℕ → ℕ → ℕ → List ℕ
text_at image block i = bytes_at image block (i + 1) (byte_at image block i)
