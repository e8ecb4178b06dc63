-- Headers of a damaged image with one wrong field, of which the checksum tells the value.
use Rattle.std.specs.Prelude.{◌≡◌, ◌≢◌, ℕ, ◌+◌, ◌/◌, ◌%◌, ◌^◌, ◌⊎◌, List}
use Rattle.adf_block.specs.Frame.{SameBut}
use Rattle.adf_block.specs.Image.{IsInside, block_count, block_sum, long}
use Rattle.adf_block.specs.Whole.{text_at}
use Rattle.adf_block.specs.declared.beside.TheConstants.{CHECKSUM}
use Rattle.adf_block.specs.declared.layout.TheConstants.{DIRECTORY_TYPE, FILE_TYPE, HEADER_TYPE, NAME_BYTE, OWN_KEY, PRIMARY_TYPE, SECONDARY_TYPE}
use Rattle.ados_name.specs.Name.{IsName}
use Rattle.ados_salvage.specs.Deleted.{AreDeleted}
use Rattle.ados_salvage.specs.Kind.{IsReadAs}
use Rattle.ados_salvage.specs.Known.{HasClaim}
use Rattle.ados_salvage.specs.Lost.{IsLost}

-- the long is that of a fixed field: each header in this block has the same value there, or one of two
abbrev pub IsFixed : ℕ → Type 0
IsFixed at = (at ≡ PRIMARY_TYPE) ⊎ (at ≡ OWN_KEY) ⊎ (at ≡ SECONDARY_TYPE)

-- a header in this block can have the value in this fixed field
abbrev pub CanHave : ℕ → ℕ → ℕ → Type 0
CanHave block at value =
    ((at ≡ PRIMARY_TYPE) × (value ≡ HEADER_TYPE)) ⊎ ((at ≡ OWN_KEY) × (value ≡ block))
    ⊎ ((at ≡ SECONDARY_TYPE) × ((value ≡ FILE_TYPE) ⊎ (value ≡ DIRECTORY_TYPE)))

-- the block has a value there that a header can have
abbrev pub IsRight : List ℕ → ℕ → ℕ → Type 0
IsRight image block at = CanHave block at (long image block at)

-- this fixed field is wrong, and all others are right
pub record IsOnlyWrong (image : List ℕ) (block at : ℕ) : Type 0 where
  pub fixed : IsFixed at
  pub wrong : ¬ IsRight image block at
  pub others : (other : ℕ) → IsFixed other → other ≢ at → IsRight image block other

-- the block has a valid name, one fixed field is wrong, and the sum of its longs is wrong by as much: with the due value in that field it would be 0
pub record IsPutRight (image : List ℕ) (block at due : ℕ) : Type 0 where
  pub inside : IsInside (block_count image) block
  pub only : IsOnlyWrong image block at
  pub name : IsName (text_at image block NAME_BYTE)
  pub value : CanHave block at due
  pub sum : (block_sum image block + due) % 2 ^ 32 ≡ long image block at

-- a lost entry that no sound file has, where these headers are left out
abbrev pub MayBePutRight : List ℕ → List ℕ → ℕ → Type 0
MayBePutRight out image block = IsLost out image block × ((file : ℕ) → ¬ HasClaim out image file block)

-- byte `k` of the block is one of a field that is put right, or of the checksum of such a block; only some blocks may be put right
abbrev pub IsChanged : (ℕ → Type 0) → List ℕ → ℕ → ℕ → Type 0
IsChanged May image block k = May block × ((at : ℕ) × (due : ℕ) × IsPutRight image block at due × ((k / 4 ≡ at) ⊎ (k / 4 ≡ CHECKSUM)))

-- in the blocks that may be put right each such field has its due value, no other byte differs but for the checksums of these blocks, and each block has the
-- same sum as before, so that no checksum becomes right
pub record ArePutRight (May : ℕ → Type 0) (image read : List ℕ) : Type 0 where
  pub rest : SameBut (IsChanged May image) image read
  pub right : (block at due : ℕ) → May block → IsPutRight image block at due → long read block at ≡ due
  pub sums : (block : ℕ) → block_sum read block ≡ block_sum image block

-- a refused image as it is read: with the kind that the evidence says, and then with the fields of lost entries put right, where its deleted entries are left out
pub record IsReadDamaged (image read : List ℕ) : Type 0 where
  pub of_kind : List ℕ
  pub kind : IsReadAs image of_kind
  pub out : List ℕ
  pub deleted : AreDeleted of_kind out
  pub mended : ArePutRight (MayBePutRight out of_kind) of_kind read
