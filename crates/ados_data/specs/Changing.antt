-- Which files can be changed.
use Rattle.std.specs.Prelude.{◌≡◌, ◌≢◌, ℕ, ◌+◌, ◌<◌, ◌≤◌, List, ◌∷◌, length, slice_index, false}
use Rattle.adf_block.specs.Image.{block_count, root_key, has_free_bit}
use Rattle.adf_block.specs.Fields.{format_of}
use Rattle.adf_block.specs.Whole.{free_bit_count}
use Rattle.ados_map.specs.Pages.{LawfulPages, pages_of, page_block}
use Rattle.ados_model.specs.Tree.{block_cost}
use Rattle.ados_model.specs.File.{IsLawful, data_blocks, extension_blocks, contents}

-- a block in use: not marked free, and neither the root nor a bitmap block
pub record IsInUse (image : List ℕ) (block : ℕ) : Type 0 where
  pub marked : has_free_bit image block ≡ false
  pub beside_root : block ≢ root_key (block_count image)
  pub beside_pages : (p : ℕ) → p < pages_of image → block ≢ page_block image p

-- the bitmap blocks are lawful, and neither they nor the root are marked free
pub record LawfulMap (image : List ℕ) : Type 0 where
  pub pages : LawfulPages image
  pub root_marked : has_free_bit image (root_key (block_count image)) ≡ false
  pub pages_marked : (p : ℕ) → p < pages_of image → has_free_bit image (page_block image p) ≡ false

-- a file that can be changed: it is lawful, the bitmap is lawful, and its blocks are in use
pub record IsWritable (image : List ℕ) (file : ℕ) (blocks extensions bytes : List ℕ) : Type 0 where
  pub lawful : IsLawful image file blocks extensions bytes
  pub map : LawfulMap image
  pub headers_used : (q : ℕ) → q ≤ length extensions → IsInUse image (slice_index (file ∷ extensions) q)
  pub data_used : (i : ℕ) → i < length blocks → IsInUse image (slice_index blocks i)

-- the file with this header can be changed
abbrev pub WritableFile : List ℕ → ℕ → Type 0
WritableFile image file = IsWritable image file (data_blocks image file) (extension_blocks image file) (contents image file)

-- enough blocks are free for the file to grow to this size
abbrev pub HasFree : List ℕ → ℕ → ℕ → Type 0
HasFree image file size = block_cost (format_of image) size ≤ free_bit_count image + block_cost (format_of image) (length (contents image file))

-- exactly the blocks that the file of this size needs more are no longer marked free
abbrev pub PaysFor : List ℕ → ℕ → ℕ → List ℕ → Type 0
PaysFor old file size new = free_bit_count new + block_cost (format_of old) size ≡ free_bit_count old + block_cost (format_of old) (length (contents old file))
