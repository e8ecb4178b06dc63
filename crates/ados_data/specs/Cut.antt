-- The blocks of a file after it was cut.
use Rattle.std.specs.Prelude.{◌≡◌, ℕ, ◌/◌, ◌<◌, ◌≤◌, ◌⊎◌, List, length, slice_index, true}
use Rattle.adf_block.specs.declared.layout.TheConstants.{BLOCK_BYTES, POINTER_COUNT, FILE_SIZE, NEXT_EXTENSION, NEXT_DATA, OFS_DATA_BYTE}
use Rattle.adf_block.specs.declared.beside.TheConstants.{CHECKSUM}
use Rattle.adf_block.specs.declared.layout.Format.TheVariants.{Ofs}
use Rattle.adf_block.specs.Image.{has_free_bit}
use Rattle.adf_block.specs.Fields.{format_of}
use Rattle.ados_model.specs.Tree.{data_count, extension_count}
use Rattle.ados_model.specs.File.{data_blocks, extension_blocks}
use Rattle.ados_data.specs.Others.{SameByte}

-- the number of data blocks that a file of this size has
abbrev pub data_left : List ℕ → ℕ → ℕ
data_left old size = data_count (format_of old) size

-- the data of the remaining data blocks is unchanged; in OFS that is the part after their fields
abbrev pub KeepsData : List ℕ → ℕ → ℕ → List ℕ → Type 0
KeepsData old file size new =
    (i k : ℕ) → i < data_left old size → k < BLOCK_BYTES → (format_of old ≡ Ofs → OFS_DATA_BYTE ≤ k)
    → SameByte old new (slice_index (data_blocks old file) i) k

-- the longs of a header that a cut may write: the number of pointers, first data block, checksum, size, first
-- extension block
abbrev pub IsCutField : ℕ → Type 0
IsCutField j = (j ≡ POINTER_COUNT) ⊎ ((j ≡ NEXT_DATA) ⊎ ((j ≡ CHECKSUM) ⊎ ((j ≡ FILE_SIZE) ⊎ (j ≡ NEXT_EXTENSION))))

-- the rest of the header is unchanged, pointers out of use included
abbrev pub CutsHeader : List ℕ → ℕ → List ℕ → Type 0
CutsHeader old file new = (k : ℕ) → k < BLOCK_BYTES → ¬ IsCutField (k / 4) → SameByte old new file k

-- the other data blocks are marked free
abbrev pub FreesData : List ℕ → ℕ → ℕ → List ℕ → Type 0
FreesData old file size new =
    (j : ℕ) → data_left old size ≤ j → j < length (data_blocks old file) → has_free_bit new (slice_index (data_blocks old file) j) ≡ true

-- extension blocks out of use are marked free
abbrev pub FreesExtensions : List ℕ → ℕ → ℕ → List ℕ → Type 0
FreesExtensions old file size new =
    (q : ℕ) → extension_count (data_left old size) ≤ q → q < length (extension_blocks old file)
    → has_free_bit new (slice_index (extension_blocks old file) q) ≡ true
