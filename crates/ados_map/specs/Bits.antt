-- One long of the bitmap. Long w, counted from 0 over all bitmap blocks, has the bits of the 32 blocks from 2 + 32 w.
use Rattle.std.specs.Prelude.{◌≡◌, ◌≢◌, ℕ, ◌+◌, ◌*◌, ◌<◌, List, Bool, not, ◌&&◌, nat_lt, true, slice_index_or, if◌then◌else◌}
use Rattle.std.specs.Int.{bit_at}
use Rattle.adf_block.specs.declared.layout.TheConstants.{BOOT_BLOCKS, LONG_BITS}
use Rattle.adf_block.specs.Image.{block_count, has_free_bit}

-- 1 if block k is inside the volume and marked free, else 0
unfoldable pub free_bit : List ℕ → ℕ → ℕ
free_bit image k = if nat_lt k (block_count image) && has_free_bit image k then 1 else 0

-- the bits of long w, 0 past the volume's end
abbrev pub IsFreeBits : List ℕ → ℕ → ℕ → Type 0
IsFreeBits image w bits = (i : ℕ) → i < LONG_BITS → bit_at bits i ≡ free_bit image (BOOT_BLOCKS + LONG_BITS * w + i)

-- whether block k is inside the volume and not named
unfoldable pub is_unnamed : List Bool → ℕ → Bool
is_unnamed named k = not (slice_index_or named k true)

-- the bits of long w, set for each block that is not named
abbrev pub IsUnnamedBits : List Bool → ℕ → ℕ → Type 0
IsUnnamedBits named w bits = (i : ℕ) → i < LONG_BITS → bit_at bits i ≡ (if is_unnamed named (BOOT_BLOCKS + LONG_BITS * w + i) then 1 else 0)

-- bit i is set if `free`, else clear; the other bits are unchanged
pub record IsBitPut (old i : ℕ) (free : Bool) (new : ℕ) : Type 0 where
  pub bit : bit_at new i ≡ (if free then 1 else 0)
  pub others : (j : ℕ) → j < LONG_BITS → j ≢ i → bit_at new j ≡ bit_at old j
