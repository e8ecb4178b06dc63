-- Which long of a block shows a fault, for the block in the role of its mark, and which value is wanted there: that of
-- the first rule of the fault's kind that the block breaks. Of five kinds no long of the block is wrong.
-- `BlockUsedTwice`: two places name the block, and are right by themselves. `WrongChain`: the name is right, and a place
-- of the directory leads to it. `DuplicateName`: the name is right, and another entry has it too. `MarkedFree`: a bitmap
-- block has the bit. `NoMemory` is no fault of an image.
use Rattle.std.specs.Prelude.{◌≡◌, ℕ, zero, suc, ◌+◌, ◌-◌, ◌*◌, ◌<◌, ◌⊎◌, ⊤, ◌&&◌, nat_lt, nat_le, Bool, true, false, if◌then◌else◌, List, Option, Some, None, option_map, MatchOption}
use Rattle.std.specs.Option.{option_and_then, option_or}
use Rattle.adf_block.specs.Image.{block_count, long}
use Rattle.adf_block.specs.Fields.{pointer, pointer_count}
use Rattle.adf_block.specs.declared.layout.TheConstants.{BLOCK_LONGS, BOOT_BLOCKS, FILE_SIZE, FIRST_POINTER, NEXT_EXTENSION, TABLE_LONGS}
use Rattle.adf_block.specs.declared.beside.TheConstants.{KIND}
use Rattle.ados_check.specs.DataRules.{BreaksRule, data_evidence}
use Rattle.ados_check.specs.Evidence.{IsFieldEvidence, IsTypeEvidence, evidence_of, sum_evidence}
use Rattle.ados_check.specs.Marks.{mark_at}
use Rattle.ados_check.specs.Rules.{HasBadField, HasBadSumAs, HasBadTypeAs}
use Rattle.ados_check.specs.declared.data_rules.DataRule.{DataRule}
use Rattle.ados_check.specs.declared.data_rules.DataRule.TheVariants.{Link, Sequence, TooFew, TooMany}
use Rattle.ados_check.specs.declared.data_rules.Place.{Place}
pub use Rattle.ados_check.specs.declared.evidence.Evidence.{Evidence}
use Rattle.ados_check.specs.declared.mark.Mark.{Mark}
use Rattle.ados_check.specs.declared.rules.FieldRule.{FieldRule}
use Rattle.ados_check.specs.declared.rules.FieldRule.TheVariants.{Comment, FirstData, Name, NoLink, OwnKey, Parent, PointerCount}
use Rattle.ados_model.specs.Faults.{HasFileType, InImage, IsOfs, IsPlace, LeadsInside}
use Rattle.ados_model.specs.declared.fault.FaultKind.{FaultKind}
use Rattle.ados_model.specs.declared.fault.FaultKind.TheVariants.{BadSum, BadType, BadOwnKey, BadParent, BadPointer, BadName, BadComment, BadCount, BadSequence, LinkEntry}
use Rattle.ados_model.specs.declared.role.Role.{Role}
use Rattle.ados_model.specs.declared.role.Role.TheVariants.{Entry, Data, Extension}
use Rattle.ados_faults.specs.Listed.{IsOtherKind, Marks}

-- the block has fields in the role of its mark. A data block has fields in OFS alone, if its holder is in the image
abbrev pub HasFields : List ℕ → Mark → Role → Type 0
HasFields image mark (Data file) = IsOfs image × InImage image mark.holder
HasFields image mark _ = ⊤

-- whether the block is in the image, and pointer k of it is in use
abbrev pub has_pointer : List ℕ → ℕ → ℕ → Bool
has_pointer image block k =
    nat_le BOOT_BLOCKS block && nat_lt block (block_count image) && nat_lt k (pointer_count image block) && nat_le (pointer_count image block) TABLE_LONGS

-- the data block of this pointer, if it is in use
abbrev pub pointed_by : List ℕ → ℕ → ℕ → Option ℕ
pointed_by image block k = if has_pointer image block k then Some (pointer image block k) else None

-- the data block after the place of a mark: of the next pointer of its holder, or of the first one of the extension
-- block that follows the holder
abbrev pub next_data : List ℕ → Mark → Option ℕ
next_data image mark = option_or (pointed_by image mark.holder (FIRST_POINTER - mark.long + 1)) (pointed_by image (long image mark.holder NEXT_EXTENSION) 0)

-- whether it is the role of an extension block
abbrev pub is_extension : Role → Bool
is_extension (Extension file) = true
is_extension _ = false

-- the number of extension blocks from a file's header to a block, by the marks, if they are fewer than n
abbrev pub extensions_to : Marks → ℕ → ℕ → Option ℕ
extensions_to marks zero block = None
extensions_to marks (suc n) block =
    option_and_then (λ mark. if is_extension mark.role then option_map (λ k. k + 1) (extensions_to marks n mark.holder) else Some 0) (mark_at marks block)

-- the number of data blocks of the file before that of a mark: 72 for each extension block, then those before its own
-- pointer
abbrev pub position_of : List ℕ → Marks → Mark → Option ℕ
position_of image marks mark = option_map (λ k. TABLE_LONGS * k + (FIRST_POINTER - mark.long)) (extensions_to marks (block_count image) mark.holder)

-- the data block of a mark at a position of its file
abbrev pub data_place : List ℕ → Mark → ℕ → ℕ → Place
data_place image mark block position = record { block = block; position = position; next = next_data image mark }

-- the evidence with this property, or none if there is no such evidence
abbrev pub IsTheEvidence : (Evidence → Type 0) → Option Evidence → Type 0
IsTheEvidence P found = MatchOption found ((evidence : Evidence) → ¬ P evidence) P

-- the first property, or the second one if no evidence has the first
abbrev pub FirstOf : (Evidence → Type 0) → (Evidence → Type 0) → Evidence → Type 0
FirstOf P Q evidence = P evidence ⊎ (((other : Evidence) → ¬ P other) × Q evidence)

-- the field shows that the block breaks the rule in this role
abbrev pub BreaksField : List ℕ → ℕ → Role → FieldRule → Evidence → Type 0
BreaksField image block role rule evidence = HasBadField image block role rule × IsFieldEvidence image block role rule evidence

-- the field shows that the data block breaks the rule at its place
abbrev pub BreaksData : List ℕ → Place → DataRule → Evidence → Type 0
BreaksData image place rule evidence = BreaksRule image place rule × (evidence ≡ data_evidence image place rule)

-- the long is a place
abbrev pub IsAPlace : List ℕ → Role → ℕ → ℕ → Type 0
IsAPlace image role block i = (next : Role) × IsPlace image block role i next

-- the long is a place, and names no block of the image
abbrev pub LeadsOut : List ℕ → Role → ℕ → ℕ → Type 0
LeadsOut image role block i = IsAPlace image role block i × ¬ LeadsInside image block i

-- the first place of the block that names no block of the image
pub record IsFirstOut (image : List ℕ) (role : Role) (block : ℕ) (evidence : Evidence) : Type 0 where
  pub within : evidence.long < BLOCK_LONGS
  pub out : LeadsOut image role block evidence.long
  pub first : (i : ℕ) → i < evidence.long → ¬ LeadsOut image role block i
  pub is : evidence ≡ evidence_of image block evidence.long None

-- the link of a data block; of any other block the link of a file's header to the first data block, or else the first
-- place that names no block of the image
abbrev pub IsPointerEvidence : List ℕ → Mark → Role → ℕ → Evidence → Type 0
IsPointerEvidence image mark (Data file) block = BreaksData image (data_place image mark block 0) Link
IsPointerEvidence image mark role block = FirstOf (BreaksField image block role FirstData) (IsFirstOut image role block)

-- the size of a file. Whether the data blocks hold so many bytes is not asked here
abbrev pub IsSizeEvidence : List ℕ → ℕ → Evidence → Type 0
IsSizeEvidence image block evidence = HasFileType image block × (evidence ≡ evidence_of image block FILE_SIZE None)

-- the number of bytes in a data block; of any other block the number of pointers, or else the size of a file
abbrev pub IsCountEvidence : List ℕ → Mark → Role → ℕ → Evidence → Type 0
IsCountEvidence image mark (Data file) block =
    FirstOf (BreaksData image (data_place image mark block 0) TooFew) (BreaksData image (data_place image mark block 0) TooMany)
IsCountEvidence image mark (Entry dir s) block = FirstOf (BreaksField image block (Entry dir s) PointerCount) (IsSizeEvidence image block)
IsCountEvidence image mark role block = BreaksField image block role PointerCount

-- the sequence number of a data block whose position is known
abbrev pub IsSequenceEvidence : List ℕ → Marks → Mark → Role → ℕ → Evidence → Type 0
IsSequenceEvidence image marks mark (Data file) block evidence =
    (position : ℕ) × (position_of image marks mark ≡ Some position) × BreaksData image (data_place image mark block position) Sequence evidence
IsSequenceEvidence image marks mark role block evidence = ⊥

-- what shows a fault of the kind, for the block in the role of the mark, by the first rule of the kind that it breaks
abbrev pub IsEvidenceOf : List ℕ → Marks → Mark → FaultKind → ℕ → Evidence → Type 0
IsEvidenceOf image marks mark BadSum block evidence = HasBadSumAs image block mark.role × (evidence ≡ sum_evidence image block mark.role)
IsEvidenceOf image marks mark BadType block evidence = HasBadTypeAs image block mark.role × IsTypeEvidence image block mark.role evidence
IsEvidenceOf image marks mark BadOwnKey block evidence = BreaksField image block mark.role OwnKey evidence
IsEvidenceOf image marks mark BadParent block evidence = BreaksField image block mark.role Parent evidence
IsEvidenceOf image marks mark BadPointer block evidence = IsPointerEvidence image mark mark.role block evidence
IsEvidenceOf image marks mark BadName block evidence = BreaksField image block mark.role Name evidence
IsEvidenceOf image marks mark BadComment block evidence = BreaksField image block mark.role Comment evidence
IsEvidenceOf image marks mark BadCount block evidence = IsCountEvidence image mark mark.role block evidence
IsEvidenceOf image marks mark BadSequence block evidence = IsSequenceEvidence image marks mark mark.role block evidence
IsEvidenceOf image marks mark LinkEntry block evidence = BreaksField image block mark.role NoLink evidence
IsEvidenceOf image marks mark _ block evidence = ⊥

-- the disk shows by this fault that it is no DOS disk, or one of an unsupported kind
abbrev pub ShowsDisk : List ℕ → FaultKind → ℕ → Type 0
ShowsDisk image kind block = IsOtherKind image kind × (block ≡ 0)

-- the long of the block that shows the fault: the first long of a disk of another kind; or what shows it in the role of
-- the block's mark
pub data AreValues (image : List ℕ) (marks : Marks) (kind : FaultKind) (block : ℕ) (values : Evidence) : Type 0 where
  of_disk : ShowsDisk image kind block → values ≡ evidence_of image 0 KIND None → AreValues image marks kind block values
  of_mark : {mark : Mark} → block < block_count image → mark_at marks block ≡ Some mark → HasFields image mark mark.role
      → IsEvidenceOf image marks mark kind block values → AreValues image marks kind block values

-- no long of the block shows the fault, or the image has no such block
abbrev pub NoneShows : List ℕ → Marks → FaultKind → ℕ → Type 0
NoneShows image marks kind block = (values : Evidence) → ¬ AreValues image marks kind block values
