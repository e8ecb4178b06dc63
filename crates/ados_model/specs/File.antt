-- The file with a header: its blocks and its bytes, by the pointers; and when it is lawful or can be read.
use Rattle.std.specs.Prelude.{◌≡◌, ◌≢◌, ℕ, zero, suc, ◌+◌, ◌/◌, ◌%◌, ◌<◌, ◌≤◌, List, ◌∷◌, length, map, slice_index}
use Rattle.std.specs.List.{range_with_len}
use Rattle.adf_block.specs.Image.{byte_at, long, block_count, IsInside}
use Rattle.adf_block.specs.Fields.{pointer, file_size, format_of}
use Rattle.adf_block.specs.declared.layout.TheConstants.{TABLE_LONGS, NEXT_EXTENSION}
use Rattle.adf_block.specs.declared.layout.Format.{Format}
use Rattle.ados_model.specs.Tree.{data_count, data_size, data_start, extension_count}
use Rattle.ados_model.specs.Stands.{HasFile}

-- byte k of a file with these data blocks; each data block but the last is full
abbrev pub file_byte : Format → List ℕ → List ℕ → ℕ → ℕ
file_byte format image blocks k =
    byte_at image (slice_index blocks (k / data_size format)) (data_start format + k % data_size format)

-- the blocks of a file are inside the volume, and no two are the same
pub record AreApart (n file : ℕ) (blocks extensions : List ℕ) : Type 0 where
  pub headers_inside : (q : ℕ) → q ≤ length extensions → IsInside n (slice_index (file ∷ extensions) q)
  pub data_inside : (i : ℕ) → i < length blocks → IsInside n (slice_index blocks i)
  pub headers_once : (p q : ℕ) → p < q → q ≤ length extensions
      → slice_index (file ∷ extensions) p ≢ slice_index (file ∷ extensions) q
  pub data_once : (i j : ℕ) → i < j → j < length blocks → slice_index blocks i ≢ slice_index blocks j
  pub apart : (q i : ℕ) → q ≤ length extensions → i < length blocks
      → slice_index (file ∷ extensions) q ≢ slice_index blocks i

-- a file with lawful lists: exactly as many blocks as its size needs, no two the same
pub record IsLawful (image : List ℕ) (file : ℕ) (blocks extensions bytes : List ℕ) : Type 0 where
  pub holds : HasFile image (format_of image) file blocks extensions bytes
  pub data_fits : length blocks ≡ data_count (format_of image) (length bytes)
  pub extensions_fit : length extensions ≡ extension_count (length blocks)
  pub places : AreApart (block_count image) file blocks extensions

-- pointer block q of a file: 0 is the header, and each has a link to the next
abbrev pub pointer_block : List ℕ → ℕ → ℕ → ℕ
pointer_block image file zero = file
pointer_block image file (suc q) = long image (pointer_block image file q) NEXT_EXTENSION

-- data block i of a file, by its pointer
abbrev pub data_block : List ℕ → ℕ → ℕ → ℕ
data_block image file i = pointer image (pointer_block image file (i / TABLE_LONGS)) (i % TABLE_LONGS)

-- the data blocks of a file, as many as its size needs
unfoldable pub data_blocks : List ℕ → ℕ → List ℕ
data_blocks image file =
    map (data_block image file) (range_with_len 0 (data_count (format_of image) (file_size image file)))

-- the extension blocks of a file, as many as its data blocks need
unfoldable pub extension_blocks : List ℕ → ℕ → List ℕ
extension_blocks image file =
    map (λ q. pointer_block image file (q + 1))
    (range_with_len 0 (extension_count (data_count (format_of image) (file_size image file))))

-- the bytes of a file
unfoldable pub contents : List ℕ → ℕ → List ℕ
contents image file =
    map (file_byte (format_of image) image (data_blocks image file)) (range_with_len 0 (file_size image file))

-- a file that can be read: its size and pointers name blocks of the image, whatever these contain
pub record ReadableFile (image : List ℕ) (file : ℕ) : Type 0 where
  pub headers_inside : (q : ℕ) → q ≤ length (extension_blocks image file)
      → pointer_block image file q < block_count image
  pub data_inside : (i : ℕ) → i < length (data_blocks image file) → data_block image file i < block_count image

-- the file with this header is lawful
abbrev pub LawfulFile : List ℕ → ℕ → Type 0
LawfulFile image file = IsLawful image file (data_blocks image file) (extension_blocks image file) (contents image file)
