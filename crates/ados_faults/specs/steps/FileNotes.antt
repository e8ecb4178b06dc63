-- What the header, extension and data blocks of files show, noted.
use Rattle.std.specs.Prelude.{◌≡◌, ◌≢◌, ℕ, ◌+◌, ◌-◌, ◌^◌, ◌<◌, ◌≤◌, ◌==◌, ◌||◌, List, Bool, true, false, Option, Some, None, MatchOption, length, min, slice_get, slice_index, sum_by, All}
use Rattle.adf_block.specs.Image.{block_count}
use Rattle.adf_block.specs.Fields.{file_size, held_count}
use Rattle.ados_check.specs.DataRules.{BreaksRule, kind_of_data}
use Rattle.ados_check.specs.declared.data_rules.DataRule.{DataRule}
use Rattle.ados_check.specs.declared.data_rules.Place.{Place}
use Rattle.ados_model.specs.declared.fault.FaultKind.TheVariants.{BadCount, BadSequence}
use Rattle.ados_model.specs.Faults.{AreDataBlocks, InImage, IsFile, IsOfs, count_of_size, pointers_of}
use Rattle.ados_faults.specs.declared.pieces.Piece.{Piece}
use Rattle.ados_faults.specs.declared.pieces.Seen.{Seen}
use Rattle.ados_faults.specs.steps.Chain.{next_in}
use Rattle.ados_faults.specs.steps.Noted.{IsNoted, cell_of}

-- if the data block breaks the rule at its place, that is noted
abbrev pub IsRuleNoted : List ℕ → List Bool → Place → DataRule → Type 0
IsRuleNoted image cells place rule = BreaksRule image place rule → IsNoted cells (cell_of (kind_of_data rule) place.block)

-- each rule that the data block breaks at this position of a file is noted. After it comes the next one, if there is one
pub record IsPlaceNoted (image : List ℕ) (cells : List Bool) (block position : ℕ) (next : Option ℕ) : Type 0 where
  pub each : (rule : DataRule) → IsRuleNoted image cells (record { block = block; position = position; next = next }) rule

-- each rule that these data blocks break from a position on is noted, as far as they are inside the image
pub record ArePlacesNoted (image : List ℕ) (cells : List Bool) (blocks : List ℕ) (from : ℕ) : Type 0 where
  pub placed : (i : ℕ) → from ≤ i → i < length blocks → InImage image (slice_index blocks i) → IsPlaceNoted image cells (slice_index blocks i) i (slice_get blocks (i + 1))

-- each rule that data block number i of a piece breaks is noted, if it is inside the image
abbrev pub IsOneNoted : List ℕ → List Bool → Piece → ℕ → Type 0
IsOneNoted image cells piece i =
    InImage image (slice_index (pointers_of image piece.header) i) → IsPlaceNoted image cells (slice_index (pointers_of image piece.header) i) (piece.position + i) (next_in image piece i)

-- each rule that the data blocks of a piece break is noted
pub record IsPieceNoted (image : List ℕ) (cells : List Bool) (piece : Piece) : Type 0 where
  pub placed : (i : ℕ) → i < piece.count → IsOneNoted image cells piece i

-- what the data blocks in the pointers of a block show at one place is noted. If they were checked at two positions, a
-- wrong sequence number of each is noted too
pub record IsHeaderSeen (image : List ℕ) (cells : List Bool) (header : ℕ) (seen : Seen) : Type 0 where
  pub header_is : seen.piece.header ≡ header
  pub count : seen.piece.count ≡ length (pointers_of image header)
  pub placed : IsPieceNoted image cells seen.piece
  pub settled : seen.is_settled ≡ true → (i : ℕ) → i < length (pointers_of image header) → InImage image (slice_index (pointers_of image header) i)
      → IsNoted cells (cell_of BadSequence (slice_index (pointers_of image header) i))

-- what is kept of each block that was seen is as `IsHeaderSeen` says
pub record AreAllSeen (image : List ℕ) (cells : List Bool) (seen : List (Option Seen)) : Type 0 where
  pub size : length seen ≡ block_count image
  pub each : (header : ℕ) (s : Seen) → slice_get seen header ≡ Some (Some s) → IsHeaderSeen image cells header s

-- the data blocks of the piece, but for the last one, need no check at this position
abbrev pub is_known : Option Seen → ℕ → Bool
is_known None position = false
is_known (Some seen) position = seen.is_settled || (seen.piece.position == position)

-- the data blocks of the piece were checked last with this data block after them
abbrev pub HasNext : Option Seen → Option ℕ → Type 0
HasNext seen next = (s : Seen) × (seen ≡ Some s) × (s.piece.next ≡ next)

-- the blocks are inside the image, and hold another number of bytes than the size of the file
abbrev pub HoldOtherSize : List ℕ → ℕ → List ℕ → Type 0
HoldOtherSize image file blocks = All (InImage image) blocks × (sum_by (held_count image) blocks ≢ file_size image file)

-- the number of bytes that the blocks hold together, at most 2 ^ 64 - 1, unless one is outside the image
abbrev pub IsHeld : List ℕ → List ℕ → Option ℕ → Type 0
IsHeld image blocks held = MatchOption held (¬ All (InImage image) blocks) (λ sum. All (InImage image) blocks × (sum ≡ min (sum_by (held_count image) blocks) (2 ^ 64 - 1)))

-- the list has for each block the number of bytes that the data blocks in its pointers hold together
pub record AreHeld (image : List ℕ) (held : List (Option ℕ)) : Type 0 where
  pub size : length held ≡ block_count image
  pub each : (header : ℕ) (sum : Option ℕ) → slice_get held header ≡ Some sum → IsHeld image (pointers_of image header) sum

-- what these data blocks of a file show is noted: a wrong number of them, and in OFS a wrong field, and a wrong number of
-- bytes
pub record AreBlocksNoted (image : List ℕ) (cells : List Bool) (file : ℕ) (blocks : List ℕ) : Type 0 where
  pub count : length blocks ≢ count_of_size image file → IsNoted cells (cell_of BadCount file)
  pub places : IsOfs image → ArePlacesNoted image cells blocks 0
  pub sum : IsOfs image → HoldOtherSize image file blocks → IsNoted cells (cell_of BadCount file)

-- what the data blocks of the file show is noted
pub record IsFileNoted (image : List ℕ) (cells : List Bool) (file : ℕ) : Type 0 where
  pub noted : (blocks : List ℕ) → AreDataBlocks image file blocks → AreBlocksNoted image cells file blocks

-- what each file shows is noted
pub record AreAllFilesNoted (image : List ℕ) (cells : List Bool) : Type 0 where
  pub noted : (file : ℕ) → IsFile image file → IsFileNoted image cells file
