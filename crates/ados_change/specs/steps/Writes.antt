-- The bytes that each step of a change of entries writes into one block.
use Rattle.std.specs.Prelude.{◌≡◌, ◌⊎◌, ℕ, ◌+◌, ◌*◌, ◌/◌, ◌<◌, ◌≤◌, List, length}
use Rattle.adf_block.specs.Image.{block_sum, HasText}
use Rattle.adf_block.specs.Fields.{parent_key}
use Rattle.adf_block.specs.declared.layout.TheConstants.{NAME_BYTE, PARENT}
use Rattle.adf_block.specs.declared.beside.TheConstants.{CHECKSUM}
use Rattle.adf_block.specs.Frame.{SameBut}
use Rattle.ados_name.specs.declared.stamp.Date3.{Date3}
use Rattle.ados_model.specs.Stands.{date_at}
use Rattle.ados_change.specs.Places.{Summed}

-- a date was written into three longs of a block, from long i, and its checksum with them; a right checksum stays
-- right
pub record Dated (block i : ℕ) (moment : Date3) (old new : List ℕ) : Type 0 where
  pub rest : SameBut (Summed block (4 * i) (4 * i + 12)) old new
  pub date : date_at new block i ≡ moment
  pub sum : block_sum old block ≡ 0 → block_sum new block ≡ 0

-- the bytes of a name with n bytes, of the directory's number and of the checksum
abbrev pub AtTitle : ℕ → ℕ → ℕ → ℕ → Type 0
AtTitle key n b i = (b ≡ key) × ((i / 4 ≡ CHECKSUM) ⊎ (((NAME_BYTE ≤ i) × (i < NAME_BYTE + 1 + n)) ⊎ (i / 4 ≡ PARENT)))

-- an entry got a name and a directory, and its checksum is right
pub record Titled (key dir : ℕ) (name : List ℕ) (old new : List ℕ) : Type 0 where
  pub rest : SameBut (AtTitle key (length name)) old new
  pub named : HasText new key NAME_BYTE name
  pub parent : parent_key new key ≡ dir
  pub summed : block_sum new key ≡ 0
