-- The block of a new entry.
use Rattle.std.specs.Prelude.{◌≡◌, ◌⊎◌, ℕ, ◌+◌, ◌/◌, ◌<◌, ◌≤◌, List, length}
use Rattle.adf_block.specs.Image.{byte_at, block_sum, HasText}
use Rattle.adf_block.specs.Frame.{long_byte}
use Rattle.adf_block.specs.Fields.{primary_type, own_key, parent_key, secondary_type}
use Rattle.adf_block.specs.declared.layout.TheConstants.{BLOCK_BYTES, OWN_KEY, SECONDARY_TYPE, HEADER_TYPE, DATE, NAME_BYTE, PARENT}
use Rattle.adf_block.specs.declared.beside.TheConstants.{CHECKSUM}
use Rattle.ados_name.specs.declared.stamp.Date3.{Date3}
use Rattle.ados_model.specs.Stands.{date_at, type_of}
use Rattle.ados_model.specs.Tree.{Content}

-- the bytes of a new entry's fields for a name with n bytes: primary type, own number, checksum, date, name, directory
-- and secondary type
abbrev pub IsNewField : ℕ → ℕ → Type 0
IsNewField n i =
    (i / 4 < OWN_KEY + 1)
    ⊎ ((i / 4 ≡ CHECKSUM)
    ⊎ (((long_byte DATE ≤ i) × (i < NAME_BYTE + 1 + n))
    ⊎ ((i / 4 ≡ PARENT) ⊎ (i / 4 ≡ SECONDARY_TYPE))))

-- the bytes of the types, the own number and the date
abbrev pub IsHeadField : ℕ → Type 0
IsHeadField i = (i / 4 < OWN_KEY + 1) ⊎ (((long_byte DATE ≤ i) × (i < long_byte (DATE + 3))) ⊎ (i / 4 ≡ SECONDARY_TYPE))

-- a block with these fields; every other byte is 0
pub record IsHead (image : List ℕ) (key : ℕ) (content : Content) (moment : Date3) : Type 0 where
  pub primary : primary_type image key ≡ HEADER_TYPE
  pub key_field : own_key image key ≡ key
  pub date : date_at image key DATE ≡ moment
  pub secondary : secondary_type image key ≡ type_of content
  pub zeros : (i : ℕ) → i < BLOCK_BYTES → ¬ IsHeadField i → byte_at image key i ≡ 0

-- the block of an entry with this name, date and directory; every other byte is 0
pub record IsNewEntry (image : List ℕ) (key dir : ℕ) (name : List ℕ) (content : Content) (moment : Date3) : Type 0 where
  pub primary : primary_type image key ≡ HEADER_TYPE
  pub key_field : own_key image key ≡ key
  pub summed : block_sum image key ≡ 0
  pub date : date_at image key DATE ≡ moment
  pub named : HasText image key NAME_BYTE name
  pub parent : parent_key image key ≡ dir
  pub secondary : secondary_type image key ≡ type_of content
  pub zeros : (i : ℕ) → i < BLOCK_BYTES → ¬ IsNewField (length name) i → byte_at image key i ≡ 0
