-- The bytes of an image that a sketch keeps.
use Rattle.std.specs.Prelude.{◌≡◌, ◌≢◌, ℕ, ◌+◌, ◌*◌, ◌<◌, ◌≤◌, ◌==◌, List, length, slice_index, get_or, Option, None, MatchOption, if◌then◌else◌}
use Rattle.adf_block.specs.Image.{block_sum, byte_at}
use Rattle.adf_block.specs.Fields.{primary_type}
use Rattle.adf_block.specs.declared.layout.TheConstants.{BLOCK_BYTES, DATA_TYPE, OFS_DATA_BYTE}

-- the number of bytes kept of a block with a right checksum: 24 of an OFS data block, 512 of any other
abbrev pub kept_length : List ℕ → ℕ → ℕ
kept_length image block = if primary_type image block == DATA_TYPE then OFS_DATA_BYTE else BLOCK_BYTES

-- the kept bytes of a block start at this position, and its checksum is right
pub record StandsAt (kept image : List ℕ) (block start : ℕ) : Type 0 where
  pub sum : block_sum image block ≡ 0
  pub within : start + kept_length image block ≤ length kept
  pub same : (k : ℕ) → k < kept_length image block → slice_index kept (start + k) ≡ byte_at image block k

-- the position of a block, or none
abbrev pub start_of : List (Option ℕ) → ℕ → Option ℕ
start_of starts block = get_or starts block None

-- each block with a right checksum is kept at its position, and each other block has none
pub record AreKept (starts : List (Option ℕ)) (kept image : List ℕ) : Type 0 where
  pub whole : length image ≡ BLOCK_BYTES * length starts
  pub byte : (i : ℕ) → slice_index image i < 256
  pub noted : (block : ℕ) → block < length starts → MatchOption (start_of starts block) (block_sum image block ≢ 0) (StandsAt kept image block)
  pub room : length kept ≤ BLOCK_BYTES * length starts

-- these are the first four bytes of an image that is not empty
pub record HasBoot (boot image : List ℕ) : Type 0 where
  pub size : length boot ≡ 4
  pub same : 0 < length image → (k : ℕ) → k < 4 → slice_index boot k ≡ slice_index image k
