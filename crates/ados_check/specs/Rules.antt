-- The rules that a block keeps in its role, as far as they need no other block.
use Rattle.std.specs.Prelude.{◌≡◌, ◌≢◌, ℕ, ◌<◌, ◌⊎◌, List, slice_index, Contains, IsTrue}
use Rattle.adf_block.specs.Image.{block_sum, byte_at, long}
use Rattle.adf_block.specs.Fields.{own_key, parent_key, pointer_count, primary_type, secondary_type}
use Rattle.adf_block.specs.Whole.{text_at}
use Rattle.adf_block.specs.declared.layout.TheConstants.{HEADER_TYPE, DATA_TYPE, LIST_TYPE, ROOT_TYPE, TABLE_LONGS, TABLE_SIZE, COMMENT_BYTE, NAME_BYTE, NEXT_DATA}
use Rattle.ados_name.specs.Name.{slot}
use Rattle.ados_name.specs.declared.comment.TheConstants.Comment as comments
use Rattle.ados_name.specs.declared.name.TheConstants.Name as names
use Rattle.ados_check.specs.Marks.{HasEntryType}
use Rattle.ados_check.specs.Source.{SourceView}
use Rattle.ados_check.specs.declared.rules.FieldRule.{FieldRule}
use Rattle.ados_check.specs.declared.rules.FieldRule.TheVariants.{NoLink, OwnKey, Parent, Name, Chain, Comment, PointerCount, FirstData}
use Rattle.ados_model.specs.declared.fault.FaultKind.{FaultKind}
use Rattle.ados_model.specs.declared.fault.FaultKind.TheVariants.{BadOwnKey, BadParent, BadPointer, WrongChain, BadName, BadComment, BadCount, LinkEntry}
use Rattle.ados_model.specs.declared.role.Role.{Role}
use Rattle.ados_model.specs.declared.role.Role.TheVariants.{Root, Page, Entry, Data, Extension}
use Rattle.ados_model.specs.Faults.{HasDirectoryType, HasFileType, HasLinkType, HasShortName, HasSum, IsContinued, IsOfs, pointers_of}

-- the kind of fault of a block that breaks the rule
abbrev pub kind_of : FieldRule → FaultKind
kind_of NoLink = LinkEntry
kind_of OwnKey = BadOwnKey
kind_of Parent = BadParent
kind_of Name = BadName
kind_of Chain = WrongChain
kind_of Comment = BadComment
kind_of PointerCount = BadCount
kind_of FirstData = BadPointer

-- the header is that of no directory, no file and no link
abbrev pub HasNoType : List ℕ → ℕ → Type 0
HasNoType image block = ¬ HasDirectoryType image block × ¬ HasFileType image block × ¬ HasLinkType image block

-- the name is empty, or longer than a name may be
abbrev pub HasWrongLength : List ℕ → ℕ → Type 0
HasWrongLength image block = (byte_at image block NAME_BYTE ≡ 0) ⊎ (names.MAX_LEN < byte_at image block NAME_BYTE)

-- the name has a wrong length, or a slash or a colon
abbrev pub HasWrongName : List ℕ → ℕ → Type 0
HasWrongName image block =
    HasWrongLength image block ⊎ Contains (text_at image block NAME_BYTE) 47 ⊎ Contains (text_at image block NAME_BYTE) 58

-- the name is short enough, and has another slot than this chain
pub record IsOfOtherSlot (image : List ℕ) (block chain : ℕ) : Type 0 where
  pub short : HasShortName image block
  pub wrong : slot (text_at image block NAME_BYTE) ≢ chain

-- there are more than 72 pointers, or fewer in a block that another one follows
abbrev pub HasOtherCount : List ℕ → ℕ → Type 0
HasOtherCount image block =
    (TABLE_LONGS < pointer_count image block) ⊎ ((pointer_count image block < TABLE_LONGS) × IsContinued image block)

-- in OFS, the link to the first data block is not the first pointer
abbrev pub HasOtherFirst : List ℕ → ℕ → Type 0
HasOtherFirst image block = IsOfs image × (long image block NEXT_DATA ≢ slice_index (pointers_of image block) 0)

-- the checksum of a block that has one is wrong
abbrev pub HasBadSumAs : List ℕ → ℕ → Role → Type 0
HasBadSumAs image block role = HasSum image role × (block_sum image block ≢ 0)

-- a type of the block is not that of its role, or a root declares another table
abbrev pub HasBadTypeAs : List ℕ → ℕ → Role → Type 0
HasBadTypeAs image block Root =
    (primary_type image block ≢ HEADER_TYPE) ⊎ (long image block TABLE_SIZE ≢ TABLE_LONGS) ⊎ (secondary_type image block ≢ ROOT_TYPE)
HasBadTypeAs image block Page = ⊥
HasBadTypeAs image block (Entry dir s) = (primary_type image block ≢ HEADER_TYPE) ⊎ HasNoType image block
HasBadTypeAs image block (Data file) = IsOfs image × (primary_type image block ≢ DATA_TYPE)
HasBadTypeAs image block (Extension file) = (primary_type image block ≢ LIST_TYPE) ⊎ (¬ HasFileType image block)

-- a field of the root breaks the rule
abbrev pub HasBadRootField : List ℕ → ℕ → FieldRule → Type 0
HasBadRootField image block Parent = parent_key image block ≢ 0
HasBadRootField image block Name = HasWrongName image block
HasBadRootField image block _ = ⊥

-- a field of an entry of a directory, in the chain of a slot, breaks the rule
abbrev pub HasBadEntryField : List ℕ → ℕ → ℕ → ℕ → FieldRule → Type 0
HasBadEntryField image block dir s NoLink = HasLinkType image block
HasBadEntryField image block dir s OwnKey = own_key image block ≢ block
HasBadEntryField image block dir s Parent = parent_key image block ≢ dir
HasBadEntryField image block dir s Name = HasWrongName image block
HasBadEntryField image block dir s Chain = IsOfOtherSlot image block s
HasBadEntryField image block dir s Comment = HasEntryType image block × (comments.MAX_LEN < byte_at image block COMMENT_BYTE)
HasBadEntryField image block dir s PointerCount = HasFileType image block × HasOtherCount image block
HasBadEntryField image block dir s FirstData = HasFileType image block × HasOtherFirst image block

-- a field of an extension block of a file breaks the rule
abbrev pub HasBadExtensionField : List ℕ → ℕ → ℕ → FieldRule → Type 0
HasBadExtensionField image block file OwnKey = own_key image block ≢ block
HasBadExtensionField image block file Parent = parent_key image block ≢ file
HasBadExtensionField image block file PointerCount = (pointer_count image block ≡ 0) ⊎ HasOtherCount image block
HasBadExtensionField image block file _ = ⊥

-- a field of a data block of a file breaks the rule; only in OFS has it fields
abbrev pub HasBadDataField : List ℕ → ℕ → ℕ → FieldRule → Type 0
HasBadDataField image block file Parent = IsOfs image × (own_key image block ≢ file)
HasBadDataField image block file _ = ⊥

-- a field of the block, in its role, breaks the rule
abbrev pub HasBadField : List ℕ → ℕ → Role → FieldRule → Type 0
HasBadField image block Root rule = HasBadRootField image block rule
HasBadField image block Page rule = ⊥
HasBadField image block (Entry dir s) rule = HasBadEntryField image block dir s rule
HasBadField image block (Data file) rule = HasBadDataField image block file rule
HasBadField image block (Extension file) rule = HasBadExtensionField image block file rule

-- the types of the block are available
abbrev pub TellsTypes : SourceView → ℕ → Role → Type 0
TellsTypes source block role = IsTrue source.whole ⊎ (HasSum source.bytes role → block_sum source.bytes block ≡ 0)

-- the fields of the block in its role are available
abbrev pub TellsFields : SourceView → ℕ → Role → Type 0
TellsFields source block role =
    IsTrue source.whole ⊎ ((HasSum source.bytes role → block_sum source.bytes block ≡ 0) × (¬ HasBadTypeAs source.bytes block role))
