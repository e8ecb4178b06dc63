-- How `map` ends: the map of an accepted image, or of a refused one.
use Rattle.std.specs.Prelude.{◌≡◌, ◌⊎◌, ℕ, Bool, true, false, List, [], Option, Result}
use Rattle.adf_block.specs.Image.{block_count}
use Rattle.ados_faults.specs.Listed.{IsOtherKind}
use Rattle.ados_model.specs.declared.fault.FaultKind.{FaultKind}
use Rattle.adf_archive.specs.Words.{kind_word}
use Rattle.adf_where.specs.BlockMap.{IsMap}
use Rattle.adf_where.specs.FaultyMap.{IsFaultyMap}
use Rattle.adf_cli.specs.declared.query.MapJob.{MapJob}
use Rattle.adf_serve.specs.declared.fault.CommandFault.{CommandFault}
use Rattle.adf_serve.specs.declared.refusal.Refusal.{Refusal}
use Rattle.adf_serve.specs.Placed.{MayEnd}
use Rattle.adf_serve.specs.Refusals.{IsImageRefusal, IsSizeRefusal}
use Rattle.adf_serve.specs.Reports.{DoesReport, TellsReport}
use Rattle.adf_serve.specs.Texts.{OfAccepted}
use Rattle.adf_serve.specs.Unread.{AreMarksOf}

-- the map of this refused image with the blocks that the list names, after why it is refused
pub record IsRefusedMap (job : MapJob) (image text : List ℕ) : Type 0 where
  pub refusal : Refusal
  pub refused : IsImageRefusal image refusal
  pub unread : List Bool
  pub listed : AreMarksOf job.bad (block_count image) [] unread
  pub mapped : IsFaultyMap job.form unread image refusal.kind.now refusal.block text

-- the map of an accepted image with the blocks that the list names, or of a refused one
abbrev pub IsMapReport : MapJob → Bool → List ℕ → Type 0
IsMapReport job true text =
    (image : List ℕ) × (unread : List Bool) × AreMarksOf job.bad (block_count image) [] unread
    × OfAccepted (λ was_validated checked t last. IsMap job.form unread checked t last) image text
IsMapReport job false text = (image : List ℕ) × IsRefusedMap job image text

-- an image is refused because its disk is none of this file system
abbrev pub IsKindRefusal : List ℕ → Refusal → Type 0
IsKindRefusal image refusal = (kind : FaultKind) × IsOtherKind image kind × (refusal.kind.now ≡ kind_word kind) × (refusal.block ≡ 0)

-- nothing but a refusal: the bytes are no image, or that of another kind of disk
abbrev pub IsBareMap : Refusal → Type 0
IsBareMap refusal = (bytes : List ℕ) × (IsSizeRefusal bytes refusal ⊎ IsKindRefusal bytes refusal)

-- the result of the command before a refusal is printed
abbrev pub DoesMap : MapJob → Option (List ℕ) → Option (List ℕ) → Result (Unit {0}) CommandFault → Type 0
DoesMap job = DoesReport (IsMapReport job) IsBareMap MayEnd

-- the result of the command after that
abbrev pub TellsMap : Bool → MapJob → Option (List ℕ) → Option (List ℕ) → Result (Unit {0}) CommandFault → Type 0
TellsMap json job = TellsReport json (IsMapReport job) IsBareMap MayEnd
