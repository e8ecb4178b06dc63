-- The headers and files of an image that are sound by themselves, wherever hash chains lead.
use Rattle.std.specs.Prelude.{◌≡◌, ℕ, ◌≤◌, Bool, List, ◌∷◌, ◌++◌, Contains}
use Rattle.adf_block.specs.Image.{block_count, block_sum, byte_at, IsInside}
use Rattle.adf_block.specs.Fields.{file_size, format_of, own_key, primary_type}
use Rattle.adf_block.specs.declared.layout.TheConstants.{HEADER_TYPE, COMMENT_BYTE, NAME_BYTE}
use Rattle.adf_block.specs.Whole.{text_at}
use Rattle.ados_name.specs.Name.{IsName}
use Rattle.ados_model.specs.File.{LawfulFile, data_blocks, extension_blocks}
use Rattle.ados_model.specs.Faults.{HasFileType}
use Rattle.ados_model.specs.Tree.{data_count}
use Rattle.ados_check.specs.Marks.{HasEntryType}
use Rattle.ados_salvage.specs.Marks.{IsHole}

-- the header of a directory or file with the right fields, in its own block
pub record IsSoundHeader (image : List ℕ) (block : ℕ) : Type 0 where
  pub inside : IsInside (block_count image) block
  pub primary : primary_type image block ≡ HEADER_TYPE
  pub secondary : HasEntryType image block
  pub key_field : own_key image block ≡ block
  pub sum : block_sum image block ≡ 0
  pub name : IsName (text_at image block NAME_BYTE)
  pub comment : byte_at image block COMMENT_BYTE ≤ 79

-- a sound file: its header, and exactly the blocks that its size needs, each with the right fields for its position,
-- inside the volume and distinct
pub record IsIntact (image : List ℕ) (file : ℕ) : Type 0 where
  pub header : IsSoundHeader image file
  pub is_file : HasFileType image file
  pub lawful : LawfulFile image file

-- the number of data blocks that the file's size needs
abbrev pub data_needed : List ℕ → ℕ → ℕ
data_needed image file = data_count (format_of image) (file_size image file)

-- all blocks of a file: its header, its extension blocks and its data blocks
abbrev pub own_blocks : List ℕ → ℕ → List ℕ
own_blocks image file = (file ∷ extension_blocks image file) ++ data_blocks image file

-- the file names the block
abbrev pub Names : List ℕ → ℕ → ℕ → Type 0
Names image file block = Contains (own_blocks image file) block

-- a sound file that claims its blocks: one whose header is not left out
pub record IsClaimant (out image : List ℕ) (file : ℕ) : Type 0 where
  pub intact : IsIntact image file
  pub told : ¬ Contains out file

-- a whole file, where these headers are left out: it claims its blocks, no other sound file claims one of them, and none is a hole
pub record IsWhole (out : List ℕ) (holes : List Bool) (image : List ℕ) (file : ℕ) : Type 0 where
  pub claimant : IsClaimant out image file
  pub there : (block : ℕ) → Names image file block → ¬ IsHole holes block
  pub alone : (other block : ℕ) → IsClaimant out image other → Names image file block → Names image other block → other ≡ file
