-- What is known of a file before its check, and the results of the parts of that check.
use Rattle.std.specs.Prelude.{◌≡◌, ◌≢◌, ℕ, suc, ◌+◌, ◌*◌, ◌<◌, ◌≤◌, List, length, slice_index}
use Rattle.adf_block.specs.Image.{long, block_sum, Chained}
use Rattle.adf_block.specs.Fields.{primary_type, pointer_count, pointer, file_size}
use Rattle.adf_block.specs.declared.layout.TheConstants.{HEADER_TYPE, TABLE_LONGS, NEXT_EXTENSION, NEXT_DATA}
use Rattle.ados_model.specs.Stands.{HasExtension, HasOfsData}
use Rattle.ados_model.specs.File.{pointer_block, data_blocks}
use Rattle.ados_model.specs.declared.role.Role.{Role}
use Rattle.ados_model.specs.declared.role.Role.TheVariants.{Entry, Extension}
use Rattle.ados_model.specs.Faults.{HasFileType, InImage, IsFile, IsOfs, IsPointer, Reached}
use Rattle.ados_check.specs.DataRules.{BreaksRule}
use Rattle.ados_check.specs.declared.data_rules.DataRule.{DataRule}
use Rattle.ados_check.specs.declared.data_rules.Place.{Place}
use Rattle.ados_check.specs.Marks.{IsSoundData}

-- pointer block q of the file has a pointer i
abbrev pub HasPointer : List ℕ → ℕ → ℕ → ℕ → Type 0
HasPointer image file q i = IsPointer image (pointer_block image file q) i

-- the data block in pointer i of pointer block q of the file
abbrev pub pointed_block : List ℕ → ℕ → ℕ → ℕ → ℕ
pointed_block image file q i = pointer image (pointer_block image file q) i

-- a file whose blocks are all reached, inside the image and sound, with this many distinct extension blocks
pub record IsReachedFile (image : List ℕ) (file : ℕ) : Type 0 where
  pub is_file : IsFile image file
  pub primary : primary_type image file ≡ HEADER_TYPE
  pub sum : block_sum image file ≡ 0
  pub extensions : ℕ
  pub ends : pointer_block image file (suc extensions) ≡ 0
  pub inside : (q : ℕ) → q ≤ extensions → InImage image (pointer_block image file q)
  pub once : (p q : ℕ) → p < q → q ≤ extensions → pointer_block image file p ≢ pointer_block image file q
  pub reached : (q : ℕ) → q < extensions → Reached image (pointer_block image file (suc q)) (Extension file)
  pub fields : (q : ℕ) → q < extensions → HasExtension image file (pointer_block image file (suc q))
  pub data_inside : (q i : ℕ) → q ≤ extensions → HasPointer image file q i → InImage image (pointed_block image file q i)
  pub data_fields : IsOfs image → (q i : ℕ) → q ≤ extensions → HasPointer image file q i → IsSoundData image (pointed_block image file q i) file

-- the block is reached as an entry, in this role
pub record IsReachedEntry (image : List ℕ) (block : ℕ) (role : Role) : Type 0 where
  pub dir : ℕ
  pub slot_of_chain : ℕ
  pub is : role ≡ Entry dir slot_of_chain
  pub reached : Reached image block role

-- the block has data pointers in this role: it is the header of a file, or an extension block
pub data HasPointersAs (image : List ℕ) (block : ℕ) : Role → Type 0 where
  header : {dir s : ℕ} → Reached image block (Entry dir s) → HasFileType image block → HasPointersAs image block (Entry dir s)
  extension : {file : ℕ} → Reached image block (Extension file) → HasPointersAs image block (Extension file)

-- the count of a pointer block: at most 72, exactly 72 if another block follows, and positive in an extension block
pub record HasCount (image : List ℕ) (block : ℕ) (role : Role) (count : ℕ) : Type 0 where
  pub counted : pointer_count image block ≡ count
  pub few : count ≤ TABLE_LONGS
  pub full : long image block NEXT_EXTENSION ≢ 0 → count ≡ TABLE_LONGS
  pub some : (file : ℕ) → role ≡ Extension file → 0 < count

-- the header and the extension blocks have this many data pointers, 72 in each but the last
pub record HasCounts (image : List ℕ) (file count : ℕ) : Type 0 where
  pub extensions : ℕ
  pub ends : pointer_block image file (suc extensions) ≡ 0
  pub goes_on : (q : ℕ) → q < extensions → pointer_block image file (suc q) ≢ 0
  pub full : (q : ℕ) → q < extensions → pointer_count image (pointer_block image file q) ≡ TABLE_LONGS
  pub rest : TABLE_LONGS * extensions + pointer_count image (pointer_block image file extensions) ≡ count
  pub few : pointer_count image (pointer_block image file extensions) ≤ TABLE_LONGS
  pub some : 0 < extensions → 0 < pointer_count image (pointer_block image file extensions)

-- the data block keeps each rule at its place
abbrev pub KeepsRules : List ℕ → Place → Type 0
KeepsRules image place = (rule : DataRule) → ¬ BreaksRule image place rule

-- the data blocks of an OFS file link to each other in order, and have the fields of their positions
pub record IsLinked (image : List ℕ) (file : ℕ) : Type 0 where
  pub chain : Chained image NEXT_DATA (long image file NEXT_DATA) (data_blocks image file)
  pub fields : (i : ℕ) → i < length (data_blocks image file) → HasOfsData image file (file_size image file) i (slice_index (data_blocks image file) i)
