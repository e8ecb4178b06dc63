-- The image that a command makes of a volume: a blank one, or that of an image after a change; and why a change is refused.
use Rattle.std.specs.Prelude.{◌≡◌, ◌⊎◌, ⊤, ℕ, Bool, false, true, List, Option, Result, Ok, Err, MatchOption}
use Rattle.std.specs.String.{string_bytes}
use Rattle.ados_name.specs.declared.stamp.Date3.{Date3}
use Rattle.ados_model.specs.Accepted.{Accepts}
use Rattle.ados_model.specs.Blank.{IsBlank}
use Rattle.ados_model.specs.declared.dos_error.DosError.TheVariants.{DeleteProtected, DiskFull, InvalidComponentName, ObjectExists}
use Rattle.ados_volume.specs.Shown.{Shown}
use Rattle.adf_cli.specs.declared.change.Change.{Change}
use Rattle.adf_cli.specs.declared.change.Change.TheVariants.{Delete}
use Rattle.adf_cli.specs.declared.change.ChangeJob.{ChangeJob}
use Rattle.adf_cli.specs.declared.refused.Refused.{Refused as Told}
use Rattle.adf_import.specs.Commands.{ChangesVolume}
use Rattle.adf_import.specs.declared.fault.InFault.{InFault}
use Rattle.adf_import.specs.declared.fault.InFault.TheVariants.{HostName, NoRoom, Refused, Twins}
use Rattle.adf_serve.specs.declared.blank.NewVolume.{NewVolume}
use Rattle.adf_serve.specs.declared.fault.CommandFault.{CommandFault}
use Rattle.adf_serve.specs.declared.fault.CommandFault.TheVariants.{Dos}
use Rattle.adf_serve.specs.declared.fault.CommandFault.TheVariants as commands
use Rattle.adf_serve.specs.declared.refusal.DosRefusal.{DosRefusal}
use Rattle.adf_serve.specs.Explained.{IsDeniedPath}
use Rattle.adf_serve.specs.Faults.{IsNamed}

-- a time stamp of a job: the given one, or any without one, since the host's clock says it
abbrev pub IsStamp : Option Date3 → Date3 → Type 0
IsStamp given stamp = MatchOption given ⊤ (λ wanted. stamp ≡ wanted)

-- the image of a blank volume with this format, size, name and time stamp
pub record IsBlankOf (new : NewVolume) (image : List ℕ) : Type 0 where
  pub name : List ℕ
  pub named : IsNamed new.letters new.name.now name
  pub stamp : Date3
  pub stamped : IsStamp new.moment stamp
  pub blank : IsBlank new.format new.blocks name stamp image

-- the change of a job was made or refused on the volume of an accepted image, at the time stamp of the job, and this is the volume
-- then
pub record Tries (job : ChangeJob) (new : Shown) (result : Result Unit InFault) : Type 0 where
  pub read : List ℕ
  pub old : Shown
  pub accepted : Accepts read old.was_validated old.image
  pub stamp : Date3
  pub stamped : IsStamp job.moment stamp
  pub changes : ChangesVolume job.change stamp old new result

-- the image of a volume after the change of a job
abbrev pub IsChanged : ChangeJob → List ℕ → Type 0
IsChanged job image = (new : Shown) × Tries job new (Ok tt) × (image ≡ new.image)

-- the change deletes entries with everything below them
abbrev pub deletes_all : Change → Bool
deletes_all (Delete paths all force) = all
deletes_all change = false

-- another path is printed than that of the argument: that of a protected entry below it
pub record IsBelow (change : Change) (image : List ℕ) (told printed : Told) : Type 0 where
  pub all : deletes_all change ≡ true
  pub protected : told.error ≡ DeleteProtected
  pub path : IsDeniedPath image (string_bytes told.path) (string_bytes printed.path)

-- a refusal is printed with its error and its argument, or with the path of an entry below that
pub record IsPrinted (change : Change) (image : List ℕ) (told printed : Told) : Type 0 where
  pub error : printed.error ≡ told.error
  pub path : (string_bytes printed.path ≡ string_bytes told.path) ⊎ IsBelow change image told printed

-- the refusal by AmigaDOS in the fault of a change: its error, with its path
abbrev pub HasRefusal : InFault → Told → Type 0
HasRefusal (Refused told) refused = refused ≡ told
HasRefusal (NoRoom path needed free) refused = refused ≡ record { error = DiskFull; path = path }
HasRefusal (HostName path name why) refused = refused ≡ record { error = InvalidComponentName; path = path }
HasRefusal (Twins path other) refused = refused ≡ record { error = ObjectExists; path = path }
HasRefusal fault refused = ⊥

-- the fault of a change as that of a command, which has its refusal; no image is refused
abbrev pub IsToldIn : InFault → CommandFault → Type 0
IsToldIn fault (Dos refusal) = HasRefusal fault refusal.refused
IsToldIn fault (commands.Refused refusal) = ⊥
IsToldIn fault told = (refused : Told) → ¬ HasRefusal fault refused

-- the same, where the path may be that of an entry below
abbrev pub IsExplained : Change → List ℕ → InFault → CommandFault → Type 0
IsExplained change image fault (Dos refusal) = (told : Told) × HasRefusal fault told × IsPrinted change image told refusal.refused
IsExplained change image fault told = IsToldIn fault told

-- the change of a job is refused, and this is printed
abbrev pub IsUnchanged : ChangeJob → DosRefusal → Type 0
IsUnchanged job refusal =
    (new : Shown) × (fault : InFault) × Tries job new (Err fault) × IsExplained job.change new.image fault (Dos refusal)
