-- What a call on a file leaves untouched in other blocks.
use Rattle.std.specs.Prelude.{◌≡◌, ◌≢◌, ℕ, ◌/◌, ◌<◌, ◌≤◌, ◌⊎◌, List, ◌∷◌, length, slice_index, false, true}
use Rattle.adf_block.specs.declared.layout.TheConstants.{BOOT_BLOCKS, BLOCK_BYTES, FIRST_SLOT, POINTER_COUNT, FIRST_POINTER, FILE_SIZE, NEXT_EXTENSION, NEXT_DATA}
use Rattle.adf_block.specs.declared.beside.TheConstants.{CHECKSUM}
use Rattle.adf_block.specs.Image.{byte_at, block_sum, block_count, has_free_bit, IsInside}
use Rattle.ados_map.specs.Pages.{pages_of, page_block, HasBit}
use Rattle.ados_model.specs.File.{data_blocks, extension_blocks}
use Rattle.ados_data.specs.Order.{InTurn}

-- byte k of block b is the same in both images
abbrev pub SameByte : List ℕ → List ℕ → ℕ → ℕ → Type 0
SameByte old new b k = byte_at new b k ≡ byte_at old b k

-- block b is unchanged byte for byte, or its longs add up to 0 afterwards
abbrev pub KeptOrSummed : List ℕ → List ℕ → ℕ → Type 0
KeptOrSummed old new b = ((k : ℕ) → k < BLOCK_BYTES → SameByte old new b k) ⊎ (block_sum new b ≡ 0)

-- another block: a boot block or a block in use, but neither a bitmap block nor a block of the file
pub record IsOther (image : List ℕ) (file : ℕ) (blocks extensions : List ℕ) (c : ℕ) : Type 0 where
  pub inside : c < block_count image
  pub used : BOOT_BLOCKS ≤ c → has_free_bit image c ≡ false
  pub beside_pages : (p : ℕ) → p < pages_of image → c ≢ page_block image p
  pub beside_headers : (q : ℕ) → q ≤ length extensions → c ≢ slice_index (file ∷ extensions) q
  pub beside_data : (i : ℕ) → i < length blocks → c ≢ slice_index blocks i

-- the longs of a file header that a change of its data may write: the number of pointers, first data block, checksum,
-- pointers, size, first extension block
abbrev pub IsDataField : ℕ → Type 0
IsDataField j =
    (j ≡ POINTER_COUNT) ⊎ ((j ≡ NEXT_DATA) ⊎ ((j ≡ CHECKSUM)
    ⊎ (((FIRST_SLOT ≤ j) × (j ≤ FIRST_POINTER)) ⊎ ((j ≡ FILE_SIZE) ⊎ (j ≡ NEXT_EXTENSION)))))

-- other blocks are unchanged and still marked used; bits past the volume's end are unchanged; in the header only the
-- fields of the data change; the bitmap blocks are the same blocks; the checksum of a changed bitmap block, and of a
-- changed header, is right
pub record Leaves (old : List ℕ) (file : ℕ) (blocks extensions : List ℕ) (new : List ℕ) : Type 0 where
  pub same_length : length new ≡ length old
  pub pages : (p : ℕ) → p < pages_of old → page_block new p ≡ page_block old p
  pub others : (c k : ℕ) → k < BLOCK_BYTES → IsOther old file blocks extensions c → SameByte old new c k
  pub used : (c : ℕ) → IsInside (block_count old) c → IsOther old file blocks extensions c → has_free_bit new c ≡ false
  pub past_end : (j : ℕ) → HasBit old j → block_count old ≤ j → has_free_bit new j ≡ has_free_bit old j
  pub header : (k : ℕ) → k < BLOCK_BYTES → ¬ IsDataField (k / 4) → SameByte old new file k
  pub header_sum : KeptOrSummed old new file
  pub page_sums : (p : ℕ) → p < pages_of old → KeptOrSummed old new (page_block old p)

-- the same for the file with this header
abbrev pub LeavesOthers : List ℕ → ℕ → List ℕ → Type 0
LeavesOthers old file new = Leaves old file (data_blocks old file) (extension_blocks old file) new

-- a block of the file: a pointer block or a data block
abbrev pub IsOwn : ℕ → List ℕ → List ℕ → ℕ → Type 0
IsOwn file blocks extensions c =
    ((q : ℕ) × (q ≤ length extensions) × (c ≡ slice_index (file ∷ extensions) q))
    ⊎ ((i : ℕ) × (i < length blocks) × (c ≡ slice_index blocks i))

-- the block was marked free before
abbrev pub WasFree : List ℕ → ℕ → Type 0
WasFree old c = (BOOT_BLOCKS ≤ c) × (has_free_bit old c ≡ true)

-- position by position: the new block d is the old block c, or it was marked free before
abbrev pub IsKeptOrTaken : List ℕ → Type 0 → ℕ → ℕ → Type 0
IsKeptOrTaken old known c d = (known × (d ≡ c)) ⊎ WasFree old d

-- after the positions of the first list, the blocks of the second have rising numbers
abbrev pub RisesBehind : List ℕ → List ℕ → Type 0
RisesBehind front blocks = (i j : ℕ) → length front ≤ i → i < j → j < length blocks → slice_index blocks i < slice_index blocks j

-- a file's lists grew: it keeps its blocks; each new one was free before; no block became free; only the file's blocks
-- were allocated, each lower than every block still free; the new blocks of each list rise, and a new extension block
-- has its place among the new data blocks
pub record Gains (old : List ℕ) (file : ℕ) (blocks extensions : List ℕ) (new : List ℕ) (blocks' extensions' : List ℕ) : Type 0 where
  pub headers : (q : ℕ) → q ≤ length extensions'
      → IsKeptOrTaken old (q ≤ length extensions) (slice_index (file ∷ extensions) q) (slice_index (file ∷ extensions') q)
  pub data_blocks_of : (i : ℕ) → i < length blocks' → IsKeptOrTaken old (i < length blocks) (slice_index blocks i) (slice_index blocks' i)
  pub marks : (c : ℕ) → IsInside (block_count old) c → has_free_bit old c ≡ false → has_free_bit new c ≡ false
  pub taken : (c : ℕ) → IsInside (block_count old) c → has_free_bit old c ≡ true → has_free_bit new c ≡ false → IsOwn file blocks' extensions' c
  pub lowest : (c d : ℕ) → IsInside (block_count old) d → BOOT_BLOCKS ≤ c → c < d → has_free_bit old d ≡ true → has_free_bit new d ≡ false → has_free_bit new c ≡ false
  pub data_rises : RisesBehind blocks blocks'
  pub extensions_rise : RisesBehind extensions extensions'
  pub in_turn : (q i : ℕ) → length extensions ≤ q → q < length extensions' → length blocks ≤ i → i < length blocks'
      → InTurn q (slice_index extensions' q) i (slice_index blocks' i)

-- the same for the file with this header
abbrev pub FileGains : List ℕ → ℕ → List ℕ → Type 0
FileGains old file new = Gains old file (data_blocks old file) (extension_blocks old file) new (data_blocks new file) (extension_blocks new file)
