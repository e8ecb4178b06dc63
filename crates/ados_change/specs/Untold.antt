-- What a change leaves untouched beyond its tree: bits past the volume's end, the blocks of files, and bytes after a
-- file's end in its data blocks.
use Rattle.std.specs.Prelude.{◌≡◌, ℕ, ◌+◌, ◌*◌, ◌<◌, ◌≤◌, List, length, slice_index, Some}
use Rattle.adf_block.specs.Image.{block_count, byte_at, has_free_bit}
use Rattle.adf_block.specs.Fields.{file_size, format_of}
use Rattle.adf_block.specs.declared.layout.TheConstants.{BLOCK_BYTES}
use Rattle.ados_map.specs.Pages.{pages_of, page_block, HasBit}
use Rattle.ados_model.specs.Tree.{data_size, data_start, Tree, content_at}
use Rattle.ados_model.specs.File.{data_blocks, extension_blocks}
use Rattle.ados_model.specs.Tree.Content.{File}
use Rattle.ados_model.specs.Stands.{Stands}
use Rattle.ados_model.specs.Keys.{HasFileKey}

-- the bitmap blocks are the same blocks, and each bit past the volume's end is unchanged
pub record KeepsPastEnd (old new : List ℕ) : Type 0 where
  pub pages : (p : ℕ) → p < pages_of old → page_block new p ≡ page_block old p
  pub bits : (k : ℕ) → HasBit old k → block_count old ≤ k → has_free_bit new k ≡ has_free_bit old k

-- the key of a file with these bytes
abbrev pub HasFileBytes : List ℕ → ℕ → List ℕ → Type 0
HasFileBytes image key bytes = (t : Tree) → Stands image t → content_at t key ≡ Some (File bytes)

-- a file has a data block q
abbrev pub HasData : List ℕ → ℕ → ℕ → Type 0
HasData image file q = q < length (data_blocks image file)

-- data block q of a file
abbrev pub data_at : List ℕ → ℕ → ℕ → ℕ
data_at image file q = slice_index (data_blocks image file) q

-- a file has the same blocks, and all bytes of its data blocks are unchanged
pub record KeepsData (old new : List ℕ) (file : ℕ) : Type 0 where
  pub blocks : data_blocks new file ≡ data_blocks old file
  pub extensions : extension_blocks new file ≡ extension_blocks old file
  pub bytes : (q i : ℕ) → HasData old file q → i < BLOCK_BYTES
      → byte_at new (data_at old file q) i ≡ byte_at old (data_at old file q) i

-- each file with the same bytes before and after keeps its blocks and all bytes in its data blocks
abbrev pub KeepsOtherData : List ℕ → List ℕ → Type 0
KeepsOtherData old new =
    (file : ℕ) (bytes : List ℕ) → HasFileBytes old file bytes → HasFileBytes new file bytes → KeepsData old new file

-- byte i of a file's data block q is after the end of the file's bytes
pub record IsBehindEnd (image : List ℕ) (file q i : ℕ) : Type 0 where
  pub block : HasData image file q
  pub byte : i < BLOCK_BYTES
  pub behind : file_size image file + data_start (format_of image) ≤ data_size (format_of image) * q + i

-- two lists are equal at each position that both have
abbrev pub AgreeInFront : List ℕ → List ℕ → Type 0
AgreeInFront xs ys = (q : ℕ) → q < length xs → q < length ys → slice_index ys q ≡ slice_index xs q

-- a file keeps its blocks, as far as both lists go; bytes after its new end are unchanged in its old data blocks, and
-- 0 in new ones
pub record KeepsFileEnd (old new : List ℕ) (file : ℕ) : Type 0 where
  pub blocks : AgreeInFront (data_blocks old file) (data_blocks new file)
  pub extensions : AgreeInFront (extension_blocks old file) (extension_blocks new file)
  pub stays : (q i : ℕ) → HasData old file q → IsBehindEnd new file q i
      → byte_at new (data_at new file q) i ≡ byte_at old (data_at old file q) i
  pub zero : (q i : ℕ) → ¬ HasData old file q → IsBehindEnd new file q i → byte_at new (data_at new file q) i ≡ 0

-- this holds for each file that exists before and after
abbrev pub KeepsFileEnds : List ℕ → List ℕ → Type 0
KeepsFileEnds old new = (file : ℕ) → HasFileKey old file → HasFileKey new file → KeepsFileEnd old new file

-- all three together
pub record KeepsUntold (old new : List ℕ) : Type 0 where
  pub past_end : KeepsPastEnd old new
  pub other_data : KeepsOtherData old new
  pub file_ends : KeepsFileEnds old new
