-- The long of a block that shows that it breaks a rule, and the value that is right there.
use Rattle.std.specs.Prelude.{◌≡◌, ◌≢◌, ℕ, ◌+◌, ◌-◌, ◌/◌, ◌%◌, ◌^◌, ◌<◌, ◌⊎◌, ◌==◌, true, false, if◌then◌else◌, List, length, slice_index, Option, Some, None}
use Rattle.adf_block.specs.Image.{block_sum, long}
use Rattle.adf_block.specs.Fields.{primary_type}
use Rattle.adf_block.specs.Whole.{text_at}
use Rattle.adf_block.specs.declared.layout.TheConstants.{COMMENT_BYTE, DATA_TYPE, FILE_TYPE, HEADER_TYPE, LIST_TYPE, NAME_BYTE, NEXT_DATA, NEXT_EXTENSION, OWN_KEY, PARENT, POINTER_COUNT, PRIMARY_TYPE, ROOT_TYPE, SECONDARY_TYPE, TABLE_LONGS, TABLE_SIZE}
use Rattle.adf_block.specs.declared.beside.TheConstants.{CHECKSUM, PAGE_CHECKSUM}
use Rattle.ados_name.specs.Name.{is_separator}
use Rattle.ados_check.specs.Rules.{HasNoType, HasWrongLength}
use Rattle.ados_check.specs.declared.evidence.Evidence.{Evidence}
use Rattle.ados_check.specs.declared.rules.FieldRule.{FieldRule}
use Rattle.ados_check.specs.declared.rules.FieldRule.TheVariants.{NoLink, OwnKey, Parent, Name, Comment, PointerCount, FirstData}
use Rattle.ados_model.specs.Faults.{pointers_of}
use Rattle.ados_model.specs.declared.role.Role.{Role}
use Rattle.ados_model.specs.declared.role.Role.TheVariants.{Root, Page, Entry, Data, Extension}

-- long i of the block and what it holds, with its one right value, if only one is right
abbrev pub evidence_of : List ℕ → ℕ → ℕ → Option ℕ → Evidence
evidence_of image block i wanted = record { long = i; found = long image block i; wanted = wanted }

-- the long with the checksum of a block in this role
abbrev pub sum_long : Role → ℕ
sum_long Page = PAGE_CHECKSUM
sum_long role = CHECKSUM

-- a checksum, and the value with which the longs of the block sum to 0
abbrev pub sum_evidence : List ℕ → ℕ → Role → Evidence
sum_evidence image block role =
    evidence_of image block (sum_long role) (Some ((long image block (sum_long role) + (2 ^ 32 - block_sum image block)) % 2 ^ 32))

-- long i holds another value than the one that is right
abbrev pub IsOther : List ℕ → ℕ → ℕ → ℕ → Evidence → Type 0
IsOther image block i right evidence = (long image block i ≢ right) × (evidence ≡ evidence_of image block i (Some right))

-- the first of the block's types, and the size of a root's table, that is not the one of its role. The secondary type of
-- an entry may have several values
abbrev pub IsTypeEvidence : List ℕ → ℕ → Role → Evidence → Type 0
IsTypeEvidence image block Root evidence =
    IsOther image block PRIMARY_TYPE HEADER_TYPE evidence
    ⊎ ((primary_type image block ≡ HEADER_TYPE)
    × (IsOther image block TABLE_SIZE TABLE_LONGS evidence ⊎ ((long image block TABLE_SIZE ≡ TABLE_LONGS) × IsOther image block SECONDARY_TYPE ROOT_TYPE evidence)))
IsTypeEvidence image block Page evidence = ⊥
IsTypeEvidence image block (Entry dir s) evidence =
    IsOther image block PRIMARY_TYPE HEADER_TYPE evidence
    ⊎ ((primary_type image block ≡ HEADER_TYPE) × HasNoType image block × (evidence ≡ evidence_of image block SECONDARY_TYPE None))
IsTypeEvidence image block (Data file) evidence = evidence ≡ evidence_of image block PRIMARY_TYPE (Some DATA_TYPE)
IsTypeEvidence image block (Extension file) evidence =
    IsOther image block PRIMARY_TYPE LIST_TYPE evidence
    ⊎ ((primary_type image block ≡ LIST_TYPE) × IsOther image block SECONDARY_TYPE FILE_TYPE evidence)

-- the place of the first slash or colon of a text
pub record IsFirstSeparator (text : List ℕ) (place : ℕ) : Type 0 where
  pub within : place < length text
  pub here : is_separator (slice_index text place) ≡ true
  pub first : (k : ℕ) → k < place → is_separator (slice_index text k) ≡ false

-- of a name the long with its length, if that is wrong; else the long with its first slash or colon
pub data IsNameEvidence (image : List ℕ) (block : ℕ) : Evidence → Type 0 where
  by_length : HasWrongLength image block → IsNameEvidence image block (evidence_of image block (NAME_BYTE / 4) None)
  by_separator : {place : ℕ} → ¬ HasWrongLength image block → IsFirstSeparator (text_at image block NAME_BYTE) place
      → IsNameEvidence image block (evidence_of image block ((NAME_BYTE + 1 + place) / 4) None)

-- the block that a block in this role names as its parent or file header
abbrev pub holder_of : Role → ℕ
holder_of (Entry dir s) = dir
holder_of (Data file) = file
holder_of (Extension file) = file
holder_of _ = 0

-- the long with the field of a rule, for a block in this role. The length and the first letters of a text share a long
abbrev pub long_of : Role → FieldRule → ℕ
long_of role NoLink = SECONDARY_TYPE
long_of role OwnKey = OWN_KEY
long_of (Data file) Parent = OWN_KEY
long_of role Parent = PARENT
long_of role Comment = COMMENT_BYTE / 4
long_of role PointerCount = POINTER_COUNT
long_of role FirstData = NEXT_DATA
long_of role _ = NAME_BYTE / 4

-- the right number of pointers of a block that an extension block follows
abbrev pub full_count : List ℕ → ℕ → Option ℕ
full_count image block = if long image block NEXT_EXTENSION == 0 then None else Some TABLE_LONGS

-- the one value of that long that is right for a block in this role, if only one is
abbrev pub wanted_by : List ℕ → ℕ → Role → FieldRule → Option ℕ
wanted_by image block role OwnKey = Some block
wanted_by image block role Parent = Some (holder_of role)
wanted_by image block role PointerCount = full_count image block
wanted_by image block role FirstData = Some (slice_index (pointers_of image block) 0)
wanted_by image block role _ = None

-- what shows that the block breaks the rule in this role
abbrev pub IsFieldEvidence : List ℕ → ℕ → Role → FieldRule → Evidence → Type 0
IsFieldEvidence image block role Name evidence = IsNameEvidence image block evidence
IsFieldEvidence image block role rule evidence = evidence ≡ evidence_of image block (long_of role rule) (wanted_by image block role rule)
