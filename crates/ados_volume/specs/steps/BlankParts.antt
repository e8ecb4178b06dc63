-- The root of a blank volume, and the blocks in use.
use Rattle.std.specs.Prelude.{◌≡◌, ℕ, ◌+◌, ◌*◌, ◌<◌, ◌≤◌, ◌⊎◌, List, Bool, true, false, length}
use Rattle.adf_block.specs.Image.{root_key, page_count, byte_at, long, block_sum, HasText}
use Rattle.adf_block.specs.Frame.{long_byte}
use Rattle.adf_block.specs.Fields.{primary_type, table_entry, parent_key, secondary_type}
use Rattle.adf_block.specs.declared.layout.TheConstants.{BLOCK_BYTES, PRIMARY_TYPE, SECONDARY_TYPE, HEADER_TYPE, ROOT_TYPE, TABLE_LONGS, TABLE_SIZE, BITMAP_FLAG, BITMAP_VALID, FIRST_PAGE, DISK_DATE, CREATION_DATE, DATE, NAME_BYTE}
use Rattle.adf_block.specs.declared.beside.TheConstants.{CHECKSUM}
use Rattle.ados_name.specs.declared.stamp.Date3.{Date3}
use Rattle.ados_model.specs.Stands.{date_at}
use Rattle.ados_map.specs.Bits.{is_unnamed}

-- byte i is in no nonzero field of a blank root with this many bitmap blocks and a name of `len` bytes
pub record IsBetweenFields (count len i : ℕ) : Type 0 where
  pub primary : ¬ (i < long_byte (PRIMARY_TYPE + 1))
  pub table_size : ¬ ((long_byte TABLE_SIZE ≤ i) × (i < long_byte (TABLE_SIZE + 1)))
  pub sum : ¬ ((long_byte CHECKSUM ≤ i) × (i < long_byte (CHECKSUM + 1)))
  pub pages : ¬ ((long_byte BITMAP_FLAG ≤ i) × (i < long_byte FIRST_PAGE + 4 * count))
  pub root_date : ¬ ((long_byte DATE ≤ i) × (i < long_byte (DATE + 3)))
  pub name : ¬ ((NAME_BYTE ≤ i) × (i < NAME_BYTE + 1 + len))
  pub dates : ¬ ((long_byte DISK_DATE ≤ i) × (i < long_byte (CREATION_DATE + 3)))
  pub secondary : ¬ (long_byte SECONDARY_TYPE ≤ i)

-- block r has the fields of the root of a blank volume with n blocks
pub record HasBlankFields (n r : ℕ) (name : List ℕ) (moment : Date3) (image : List ℕ) : Type 0 where
  pub primary : primary_type image r ≡ HEADER_TYPE
  pub table_size : long image r TABLE_SIZE ≡ TABLE_LONGS
  pub table : (s : ℕ) → s < TABLE_LONGS → table_entry image r s ≡ 0
  pub valid : long image r BITMAP_FLAG ≡ BITMAP_VALID
  pub pages : (i : ℕ) → i < page_count n → long image r (FIRST_PAGE + i) ≡ r + 1 + i
  pub root_date : date_at image r DATE ≡ moment
  pub root_name : HasText image r NAME_BYTE name
  pub disk_date : date_at image r DISK_DATE ≡ moment
  pub creation_date : date_at image r CREATION_DATE ≡ moment
  pub parent : parent_key image r ≡ 0
  pub secondary : secondary_type image r ≡ ROOT_TYPE
  pub sum : block_sum image r ≡ 0
  pub zero : (i : ℕ) → i < BLOCK_BYTES → IsBetweenFields (page_count n) (length name) i → byte_at image r i ≡ 0

-- the root of a blank volume with n blocks
abbrev pub IsBlankRoot : ℕ → List ℕ → Date3 → List ℕ → Type 0
IsBlankRoot n name moment image = HasBlankFields n (root_key n) name moment image

-- of n blocks, exactly the root and the bitmap blocks after it are named
pub record NamesBlank (n : ℕ) (named : List Bool) : Type 0 where
  pub count : length named ≡ n
  pub used : (k : ℕ) → root_key n ≤ k → k ≤ root_key n + page_count n → is_unnamed named k ≡ false
  pub free : (k : ℕ) → k < n → (k < root_key n) ⊎ (root_key n + page_count n < k) → is_unnamed named k ≡ true
  pub past : (k : ℕ) → n ≤ k → is_unnamed named k ≡ false
