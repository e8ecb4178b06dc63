-- The rules that a data block of an OFS file keeps at its place in the file.
use Rattle.std.specs.Prelude.{◌≡◌, ◌≢◌, ℕ, ◌+◌, ◌^◌, ◌<◌, ◌⊎◌, if◌then◌else◌, nat_lt, List, Option, None, Some, is_some, length, slice_get, slice_index, unwrap_or, IsTrue}
use Rattle.adf_block.specs.Image.{block_sum, long}
use Rattle.adf_block.specs.Fields.{held_count, sequence_number}
use Rattle.adf_block.specs.declared.layout.TheConstants.{HELD, NEXT_DATA, OFS_ROOM, SEQUENCE}
use Rattle.ados_check.specs.Evidence.{evidence_of}
use Rattle.ados_check.specs.Source.{SourceView}
use Rattle.ados_check.specs.declared.data_rules.DataRule.{DataRule}
use Rattle.ados_check.specs.declared.data_rules.DataRule.TheVariants.{Sequence, TooFew, TooMany, Link}
use Rattle.ados_check.specs.declared.data_rules.Place.{Place}
use Rattle.ados_check.specs.declared.evidence.Evidence.{Evidence}
use Rattle.ados_model.specs.declared.fault.FaultKind.{FaultKind}
use Rattle.ados_model.specs.declared.fault.FaultKind.TheVariants.{BadCount, BadPointer, BadSequence}
use Rattle.ados_model.specs.Faults.{AreDataBlocks}

-- the kind of fault of a data block that breaks the rule
abbrev pub kind_of_data : DataRule → FaultKind
kind_of_data Sequence = BadSequence
kind_of_data TooFew = BadCount
kind_of_data TooMany = BadCount
kind_of_data Link = BadPointer

-- the data block stands at its place in a file
pub record IsPlaced (image : List ℕ) (place : Place) : Type 0 where
  pub file : ℕ
  pub blocks : List ℕ
  pub of_file : AreDataBlocks image file blocks
  pub within : place.position < length blocks
  pub here : slice_index blocks place.position ≡ place.block
  pub next : slice_get blocks (place.position + 1) ≡ place.next
  pub few : place.position < 2 ^ 63

-- the data block is empty, or is not full although others follow
abbrev pub HoldsTooLittle : List ℕ → ℕ → Option ℕ → Type 0
HoldsTooLittle image block next = (held_count image block ≡ 0) ⊎ ((held_count image block ≢ OFS_ROOM) × (next ≢ None))

-- the data block breaks the rule at its place
abbrev pub BreaksRule : List ℕ → Place → DataRule → Type 0
BreaksRule image place Sequence = sequence_number image place.block ≢ place.position + 1
BreaksRule image place TooFew = HoldsTooLittle image place.block place.next
BreaksRule image place TooMany = OFS_ROOM < held_count image place.block
BreaksRule image place Link = long image place.block NEXT_DATA ≢ unwrap_or place.next 0

-- the long with the field of the rule
abbrev pub data_long : DataRule → ℕ
data_long Sequence = SEQUENCE
data_long Link = NEXT_DATA
data_long _ = HELD

-- the one right value of that long at the place, if only one is right. A block before another one is full
abbrev pub data_wanted : Place → DataRule → Option ℕ
data_wanted place Sequence = if nat_lt (place.position + 1) (2 ^ 32) then Some (place.position + 1) else None
data_wanted place Link = Some (unwrap_or place.next 0)
data_wanted place _ = if is_some place.next then Some OFS_ROOM else None

-- what shows that the data block breaks the rule at its place
abbrev pub data_evidence : List ℕ → Place → DataRule → Evidence
data_evidence image place rule = evidence_of image place.block (data_long rule) (data_wanted place rule)

-- the header of the data block is available
abbrev pub TellsHeader : SourceView → ℕ → Type 0
TellsHeader source block = IsTrue source.whole ⊎ (block_sum source.bytes block ≡ 0)
