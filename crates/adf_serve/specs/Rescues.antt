-- How `extract --damaged` ends.
use Rattle.std.specs.Prelude.{◌≡◌, ◌==◌, ℕ, Bool, true, false, List, [], length, Option, Some, None, MatchOption, Result, Ok, Err, is_some, ⊤}
use Rattle.adf_block.specs.Image.{block_count}
use Rattle.ados_name.specs.declared.stamp.Date3.{Date3}
use Rattle.ados_salvage.specs.Salvaged.{Saved}
use Rattle.adf_import.specs.SavedLeft.{IsVolumeOf}
use Rattle.adf_import.specs.declared.saved_names.OwnNames.{OwnNames}
use Rattle.adf_import.specs.declared.saved_volume.LeftEntry.{LeftEntry}
use Rattle.adf_rescue.specs.Rescue.{IsReport}
use Rattle.adf_cli.specs.declared.query.SalvageJob.{SalvageJob}
use Rattle.adf_serve.specs.declared.fault.CommandFault.{CommandFault}
use Rattle.adf_serve.specs.declared.fault.CommandFault.TheVariants.{Extracted, LeftOut, Memory}
use Rattle.adf_serve.specs.declared.refusal.Refusal.{Refusal}
use Rattle.adf_serve.specs.Refusals.{IsSizeRefusal}
use Rattle.adf_serve.specs.Reports.{DoesReport, TellsReport}
use Rattle.adf_serve.specs.Unread.{AreMarksOf}

-- why there is no report on an image that was read: memory ran out, or the host files cannot be written; an image that is only
-- listed writes none
abbrev pub IsRescueEnd : Bool → CommandFault → Type 0
IsRescueEnd list Memory = ⊤
IsRescueEnd false (Extracted fault) = ⊤
IsRescueEnd list fault = ⊥

-- a command that only lists writes no host files, so it never ends for one
abbrev pub IsHostEnd : CommandFault → Bool → Type 0
IsHostEnd (Extracted fault) true = ⊥
IsHostEnd fault list = ⊤

-- the blocks of an image of which its file lacks bytes; none of them if all of the file is the image
abbrev pub AreLacking : SalvageJob → List Bool → Type 0
AreLacking job missing = job.image.blocks ≡ None → missing ≡ []

-- the holes of an image: the blocks of which its file lacks bytes, and those that the list names
abbrev pub AreHoles : SalvageJob → List ℕ → List Bool → Type 0
AreHoles job image holes = (missing : List Bool) × AreLacking job missing × AreMarksOf job.bad (block_count image) missing holes

-- a new volume with everything of a salvage that can be there, and whether nothing is left out
pub record IsMended (saved : Saved) (all : Bool) : Type 0 where
  pub moment : Date3
  pub image : List ℕ
  pub own : OwnNames
  pub left : List LeftEntry
  pub made : IsVolumeOf saved moment image own left
  pub is_all : all ≡ (length left == 0)

-- the same where it may not be said whether nothing is left out
abbrev pub IsMendedAs : Saved → Option Bool → Type 0
IsMendedAs saved (Some all) = IsMended saved all
IsMendedAs saved None = (all : Bool) × IsMended saved all

-- if a new image is asked for, there is such a volume
abbrev pub IsMendedFor : SalvageJob → Saved → Option Bool → Type 0
IsMendedFor job saved all = MatchOption job.out ⊤ (λ file. IsMendedAs saved all)

-- the report on a rescue of an image that was accepted or not, as lines or as a JSON object, and the new volume of that rescue
abbrev pub IsRescueText : SalvageJob → Option Bool → Bool → List ℕ → Type 0
IsRescueText job all accepted text =
    (holes : List Bool) × (image : List ℕ) × AreHoles job image holes × (report : IsReport job.json holes (is_some job.bad) image accepted text) × IsMendedFor job report.rescue.salvage all

-- whether a result says that the new image has all, or not all, that was saved
abbrev pub told_all : Result (Unit {0}) CommandFault → Option Bool
told_all (Ok done) = Some true
told_all (Err LeftOut) = Some false
told_all (Err fault) = None

-- an image is refused only for a wrong size
abbrev pub IsSomeSize : Refusal → Type 0
IsSomeSize refusal = (bytes : List ℕ) × IsSizeRefusal bytes refusal

-- the result of the command before a refusal is printed
abbrev pub DoesRescue : SalvageJob → Option (List ℕ) → Option (List ℕ) → Result (Unit {0}) CommandFault → Type 0
DoesRescue job old new result = DoesReport (IsRescueText job (told_all result)) IsSomeSize (λ fault. IsHostEnd fault job.list) old new result

-- the result of the command after that
abbrev pub TellsRescue : Bool → SalvageJob → Option (List ℕ) → Option (List ℕ) → Result (Unit {0}) CommandFault → Type 0
TellsRescue json job old new result = TellsReport json (IsRescueText job (told_all result)) IsSomeSize (λ fault. IsHostEnd fault job.list) old new result
