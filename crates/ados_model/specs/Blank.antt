-- The tree and the image of a blank volume.
use Rattle.std.specs.Prelude.{◌≡◌, ℕ, ◌+◌, ◌*◌, ◌<◌, ◌≤◌, ◌==◌, if◌then◌else◌, List, [], length, replicate, Some, None}
use Rattle.adf_block.specs.declared.layout.Format.{Format}
use Rattle.adf_block.specs.Image.{IsInside, root_key, page_count, byte_at, bytes_at, long, block_sum, HasText}
use Rattle.adf_block.specs.Whole.{IsSize, HasFreeBit}
use Rattle.adf_block.specs.Fields.{primary_type, table_entry, parent_key, secondary_type}
use Rattle.ados_name.specs.declared.stamp.Date3.{Date3}
use Rattle.ados_model.specs.Tree.{Node, Tree}
use Rattle.ados_model.specs.Tree.Content.{Directory}
use Rattle.adf_block.specs.declared.layout.TheConstants.{BOOT_BLOCKS, BLOCK_BYTES, HEADER_TYPE, ROOT_TYPE}
use Rattle.adf_block.specs.declared.layout.TheConstants.{TABLE_LONGS, TABLE_SIZE, BITMAP_FLAG, BITMAP_VALID}
use Rattle.adf_block.specs.declared.layout.TheConstants.{FIRST_PAGE, DISK_DATE, CREATION_DATE, DATE, NAME_BYTE}
use Rattle.adf_block.specs.declared.layout.TheConstants.{PAGE_BITS}
use Rattle.ados_model.specs.Stands.{date_at}
use Rattle.ados_model.specs.Phrases.{kind_bytes}
use Rattle.ados_model.specs.declared.role.Role.TheVariants.{Root}
use Rattle.ados_model.specs.Kept.{IsField}

-- an empty root with this name and date
abbrev pub blank_root : List ℕ → Date3 → Node
blank_root name moment =
    record { name = name; parent = None; protection = 0; date = moment; comment = []; content = Directory [] }

-- a volume with an empty root; its three dates are `moment`
abbrev pub blank_tree : Format → ℕ → List ℕ → Date3 → Tree
blank_tree format n name moment = record {
  blocks = n;
  format = format;
  disk_date = moment;
  creation_date = moment;
  nodes = λ key. if key == root_key n then Some (blank_root name moment) else None;
  lost = λ block. None;
}

-- a root, followed by the bitmap blocks; all other bytes are zero
pub record IsBlank (format : Format) (n : ℕ) (name : List ℕ) (moment : Date3) (image : List ℕ) : Type 0 where
  pub size : IsSize n
  pub whole : length image ≡ BLOCK_BYTES * n
  pub boot : bytes_at image 0 0 4 ≡ kind_bytes format
  pub boot_zero : (i : ℕ) → 4 ≤ i → i < BOOT_BLOCKS * BLOCK_BYTES → byte_at image 0 i ≡ 0
  pub primary : primary_type image (root_key n) ≡ HEADER_TYPE
  pub table_size : long image (root_key n) TABLE_SIZE ≡ TABLE_LONGS
  pub table : (s : ℕ) → s < TABLE_LONGS → table_entry image (root_key n) s ≡ 0
  pub valid : long image (root_key n) BITMAP_FLAG ≡ BITMAP_VALID
  pub pages : (i : ℕ) → i < page_count n → long image (root_key n) (FIRST_PAGE + i) ≡ root_key n + 1 + i
  pub root_date : date_at image (root_key n) DATE ≡ moment
  pub disk_date : date_at image (root_key n) DISK_DATE ≡ moment
  pub creation_date : date_at image (root_key n) CREATION_DATE ≡ moment
  pub root_name : HasText image (root_key n) NAME_BYTE name
  pub parent : parent_key image (root_key n) ≡ 0
  pub secondary : secondary_type image (root_key n) ≡ ROOT_TYPE
  pub root_sum : block_sum image (root_key n) ≡ 0
  pub root_zero : (i : ℕ) → i < BLOCK_BYTES → ¬ IsField image (root_key n) Root i → byte_at image (root_key n) i ≡ 0
  pub page_sum : (i : ℕ) → i < page_count n → block_sum image (root_key n + 1 + i) ≡ 0
  pub free_below : (block : ℕ) → IsInside n block → block < root_key n → HasFreeBit image block
  pub used : (block : ℕ) → IsInside n block → root_key n ≤ block → block ≤ root_key n + page_count n
      → ¬ HasFreeBit image block
  pub free_above : (block : ℕ) → IsInside n block → root_key n + page_count n < block → HasFreeBit image block
  pub past_end : (block : ℕ) → n ≤ block → block < BOOT_BLOCKS + PAGE_BITS * page_count n → ¬ HasFreeBit image block
  pub others_below : (block : ℕ) → IsInside n block → block < root_key n
      → bytes_at image block 0 BLOCK_BYTES ≡ replicate BLOCK_BYTES 0
  pub others_above : (block : ℕ) → IsInside n block → root_key n + page_count n < block
      → bytes_at image block 0 BLOCK_BYTES ≡ replicate BLOCK_BYTES 0
