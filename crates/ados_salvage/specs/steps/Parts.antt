-- A sound file in parts: its data blocks, and that all its blocks are distinct.
use Rattle.std.specs.Prelude.{◌≡◌, ◌≢◌, ℕ, zero, suc, ◌<◌, List, length, slice_index, All}
use Rattle.adf_block.specs.declared.layout.Format.TheVariants.{Ofs}
use Rattle.adf_block.specs.Image.{block_count, long, IsInside}
use Rattle.adf_block.specs.Fields.{file_size, format_of}
use Rattle.adf_block.specs.declared.layout.TheConstants.{NEXT_DATA}
use Rattle.ados_model.specs.Stands.{HasOfsData}
use Rattle.ados_model.specs.File.{data_block}
use Rattle.ados_salvage.specs.Sound.{data_needed}

-- the block can be data block i of the file, after the block before it
pub record IsDataBlock (image : List ℕ) (file i before block : ℕ) : Type 0 where
  pub inside : IsInside (block_count image) block
  pub fields : format_of image ≡ Ofs → HasOfsData image file (file_size image file) i block
  pub linked : format_of image ≡ Ofs → long image before NEXT_DATA ≡ block

-- the block before data block i: the header, or the data block before it
abbrev pub data_before : List ℕ → ℕ → ℕ → ℕ
data_before image file zero = file
data_before image file (suc i) = data_block image file i

-- the data blocks have the right fields for their positions
pub record HasData (image : List ℕ) (file : ℕ) : Type 0 where
  pub block : (i : ℕ) → i < data_needed image file → IsDataBlock image file i (data_before image file i) (data_block image file i)
  pub ends : format_of image ≡ Ofs → long image (data_before image file (data_needed image file)) NEXT_DATA ≡ 0

-- for each block of the image a file below n
pub record AreUsersBelow (image : List ℕ) (n : ℕ) (users : List ℕ) : Type 0 where
  pub size : length users ≡ block_count image
  pub below : All (λ user. user < n) users

-- the blocks are distinct
abbrev pub AreOnce : List ℕ → Type 0
AreOnce blocks = (i j : ℕ) → i < j → j < length blocks → slice_index blocks i ≢ slice_index blocks j
