-- How `where` ends for blocks: the output for an accepted image, and for a refused one.
use Rattle.std.specs.Prelude.{◌≡◌, ◌⊎◌, ℕ, Bool, true, false, List, [], Option, Result, ⊤}
use Rattle.std.specs.Io.KnownBytes.{Keeps}
use Rattle.adf_io.specs.Prefix.{WritesFrontOf}
use Rattle.adf_block.specs.Image.{block_count}
use Rattle.adf_where.specs.declared.where_fault.WhereFault.TheVariants.{NoBlock}
use Rattle.adf_where.specs.Faulty.{IsFaultyWhere}
use Rattle.adf_where.specs.Where.{IsWhereFault}
use Rattle.adf_cli.specs.declared.block_word.BlockWord.{BlockWord}
use Rattle.adf_cli.specs.declared.query.WhereJob.{WhereJob}
use Rattle.adf_serve.specs.declared.fault.CommandFault.{CommandFault}
use Rattle.adf_serve.specs.declared.fault.CommandFault.TheVariants.{Memory, Output, Refused}
use Rattle.adf_serve.specs.Refusals.{IsImageRefusal, IsSizeRefusal}
use Rattle.adf_serve.specs.declared.refusal.Refusal.{Refusal}
use Rattle.adf_serve.specs.Reports.{DoesReport, TellsReport}
use Rattle.adf_serve.specs.Texts.{AreOwnedBlocks}
use Rattle.adf_serve.specs.Unread.{AreMarksOf}

-- the output for this refused image: why it is refused, the places that name the blocks, their faults, and which of them the list names
pub record IsPlacedIn (job : WhereJob) (image : List ℕ) (text : List ℕ) : Type 0 where
  pub refusal : Refusal
  pub refused : IsImageRefusal image refusal
  pub unread : List Bool
  pub listed : AreMarksOf job.bad (block_count image) [] unread
  pub placed : IsFaultyWhere job.json unread image refusal.kind.now refusal.block job.blocks.items text

-- the output for an accepted image, the owners of the blocks, or for a refused one
abbrev pub IsWhereText : WhereJob → Bool → List ℕ → Type 0
IsWhereText job true text = (image : List ℕ) × AreOwnedBlocks job image text
IsWhereText job false text = (image : List ℕ) × IsPlacedIn job image text

-- nothing but the refusal of an image: an argument names none of its blocks
abbrev pub IsUnasked : WhereJob → List ℕ → Refusal → Type 0
IsUnasked job image refusal = IsImageRefusal image refusal × ((word : BlockWord) × IsWhereFault (block_count image) job.blocks.items (NoBlock word))

-- nothing but a refusal: the bytes are no image, or an argument names no block of the refused image
abbrev pub IsBareRefusal : WhereJob → Refusal → Type 0
IsBareRefusal job refusal = (image : List ℕ) × (IsSizeRefusal image refusal ⊎ IsUnasked job image refusal)

-- what such a fault leaves: nothing is written if an argument names no block; otherwise nothing, or a prefix of the output
abbrev pub LeavesPlaced : WhereJob → List ℕ → Option (List ℕ) → Option (List ℕ) → CommandFault → Type 0
LeavesPlaced job image old new (Refused refusal) = Keeps old new × IsUnasked job image refusal
LeavesPlaced job image old new Memory = Keeps old new ⊎ WritesFrontOf old new (IsPlacedIn job image)
LeavesPlaced job image old new fault = (fault ≡ Output) × (Keeps old new ⊎ WritesFrontOf old new (IsPlacedIn job image))

-- it may end by any fault without a text
abbrev pub MayEnd : CommandFault → Type 0
MayEnd fault = ⊤

-- the result of the command before a refusal is printed
abbrev pub DoesWhere : WhereJob → Option (List ℕ) → Option (List ℕ) → Result (Unit {0}) CommandFault → Type 0
DoesWhere job = DoesReport (IsWhereText job) (IsBareRefusal job) MayEnd

-- the result of the command after that
abbrev pub TellsWhere : Bool → WhereJob → Option (List ℕ) → Option (List ℕ) → Result (Unit {0}) CommandFault → Type 0
TellsWhere json job = TellsReport json (IsWhereText job) (IsBareRefusal job) MayEnd
