-- The bytes that a change of a file's data leaves untouched in its own blocks, and the bytes of new blocks.
use Rattle.std.specs.Prelude.{◌≡◌, ◌≢◌, ℕ, ◌+◌, ◌-◌, ◌*◌, ◌/◌, ◌<◌, ◌≤◌, ◌⊎◌, min, List, ◌∷◌, length, slice_index}
use Rattle.adf_block.specs.declared.layout.Format.{Format}
use Rattle.adf_block.specs.Image.{byte_at, long, block_count}
use Rattle.adf_block.specs.Fields.{pointer_count, file_size, format_of}
use Rattle.adf_block.specs.declared.layout.TheConstants.{BLOCK_BYTES, PRIMARY_TYPE, OWN_KEY, SECONDARY_TYPE, POINTER_COUNT, FIRST_POINTER, FILE_SIZE, PARENT, NEXT_EXTENSION, NEXT_DATA}
use Rattle.adf_block.specs.declared.beside.TheConstants.{CHECKSUM}
use Rattle.ados_map.specs.Pages.{pages_of, page_block}
use Rattle.ados_model.specs.Tree.{data_size, data_start}
use Rattle.ados_model.specs.File.{data_blocks, extension_blocks}
use Rattle.ados_data.specs.Others.{SameByte}

-- the longs of a pointer block that a change may write: the number of pointers, checksum, the pointers in use, next
-- extension block
abbrev pub IsPointerField : ℕ → ℕ → Type 0
IsPointerField count j = (j ≡ POINTER_COUNT) ⊎ ((j ≡ CHECKSUM) ⊎ (((FIRST_POINTER + 1 - count ≤ j) × (j ≤ FIRST_POINTER)) ⊎ (j ≡ NEXT_EXTENSION)))

-- the same for the header, which also has the first data block and the size
abbrev pub IsHeaderField : ℕ → ℕ → Type 0
IsHeaderField count j = IsPointerField count j ⊎ ((j ≡ NEXT_DATA) ⊎ (j ≡ FILE_SIZE))

-- the longs of an extension block with a meaning: those of a pointer block, the types, its own number, and the header
abbrev pub IsExtensionField : ℕ → ℕ → Type 0
IsExtensionField count j = IsPointerField count j ⊎ ((j ≡ PRIMARY_TYPE) ⊎ ((j ≡ OWN_KEY) ⊎ ((j ≡ PARENT) ⊎ (j ≡ SECONDARY_TYPE))))

-- the end of the file's bytes in its data block i
abbrev pub data_end : Format → ℕ → ℕ → ℕ
data_end format size i = data_start format + min (data_size format) (size - data_size format * i)

-- a block inside the volume, possibly free, that is neither a bitmap block nor one of the file
pub record IsBeside (image : List ℕ) (file : ℕ) (blocks extensions : List ℕ) (c : ℕ) : Type 0 where
  pub inside : c < block_count image
  pub beside_pages : (p : ℕ) → p < pages_of image → c ≢ page_block image p
  pub beside_headers : (q : ℕ) → q ≤ length extensions → c ≢ slice_index (file ∷ extensions) q
  pub beside_data : (i : ℕ) → i < length blocks → c ≢ slice_index blocks i

-- byte k of the header is unchanged if it is in no field afterwards
abbrev pub KeepsHeader : List ℕ → List ℕ → ℕ → ℕ → Type 0
KeepsHeader old new file k = k < BLOCK_BYTES → ¬ IsHeaderField (pointer_count new file) (k / 4) → SameByte old new file k

-- byte k of an old extension block is unchanged if it is in no field afterwards that a change may write
abbrev pub KeepsExtension : List ℕ → List ℕ → ℕ → ℕ → Type 0
KeepsExtension old new block k = k < BLOCK_BYTES → ¬ IsPointerField (pointer_count new block) (k / 4) → SameByte old new block k

-- byte k of an old data block i is unchanged if it is after the new end of the file's bytes
abbrev pub KeepsSlack : List ℕ → List ℕ → ℕ → ℕ → ℕ → ℕ → Type 0
KeepsSlack old new file i block k = k < BLOCK_BYTES → data_end (format_of old) (file_size new file) i ≤ k → SameByte old new block k

-- byte k of a new extension block is 0 if it is in no field
abbrev pub IsZeroInExtension : List ℕ → ℕ → ℕ → Type 0
IsZeroInExtension new block k = k < BLOCK_BYTES → ¬ IsExtensionField (pointer_count new block) (k / 4) → byte_at new block k ≡ 0

-- byte k of a new data block i is 0 if it is after the end of the file's bytes
abbrev pub IsZeroInData : Format → List ℕ → ℕ → ℕ → ℕ → ℕ → Type 0
IsZeroInData format new file i block k = k < BLOCK_BYTES → data_end format (file_size new file) i ≤ k → byte_at new block k ≡ 0

-- a file's lists of blocks changed: blocks outside the new lists are unchanged; the file's own blocks are unchanged
-- outside the parts in use; new blocks are 0 outside them; the header has the right first data block, in FFS too
pub record KeepsUnnamed (old : List ℕ) (file : ℕ) (blocks extensions : List ℕ) (new : List ℕ) (blocks' extensions' : List ℕ) : Type 0 where
  pub others : (c k : ℕ) → k < BLOCK_BYTES → IsBeside old file blocks' extensions' c → SameByte old new c k
  pub header : (k : ℕ) → KeepsHeader old new file k
  pub extension : (q k : ℕ) → q < length extensions → q < length extensions' → KeepsExtension old new (slice_index extensions' q) k
  pub slack : (i k : ℕ) → i < length blocks → i < length blocks' → KeepsSlack old new file i (slice_index blocks' i) k
  pub new_extension : (q k : ℕ) → length extensions ≤ q → q < length extensions' → IsZeroInExtension new (slice_index extensions' q) k
  pub new_data : (i k : ℕ) → length blocks ≤ i → i < length blocks' → IsZeroInData (format_of old) new file i (slice_index blocks' i) k
  pub first_taken : length blocks ≡ 0 → 0 < length blocks' → long new file NEXT_DATA ≡ slice_index blocks' 0
  pub first_given : 0 < length blocks → length blocks' ≡ 0 → long new file NEXT_DATA ≡ 0
  pub first_kept : ((length blocks ≡ 0) × (length blocks' ≡ 0)) ⊎ ((0 < length blocks) × (0 < length blocks'))
      → long new file NEXT_DATA ≡ long old file NEXT_DATA

-- the same for the file with this header
abbrev pub FileKeepsUnnamed : List ℕ → ℕ → List ℕ → Type 0
FileKeepsUnnamed old file new =
    KeepsUnnamed old file (data_blocks old file) (extension_blocks old file) new (data_blocks new file) (extension_blocks new file)
