-- Changes that are refused, and the volumes that commands make.
use Rattle.std.proofs.Common.{◌≡◌, ℕ, inl, inr, true, List, String, Global, Err, refl, sym, subst}
use Rattle.std.specs.String.{string_bytes}
use Rattle.ados_model.specs.declared.dos_error.DosError.TheVariants.{DeleteProtected}
use Rattle.ados_volume.specs.Shown.{Shown}
use Rattle.adf_cli.specs.declared.change.Change.{Change}
use Rattle.adf_cli.specs.declared.change.ChangeJob.{ChangeJob}
use Rattle.adf_cli.specs.declared.refused.Refused.{Refused as Told}
use Rattle.adf_import.specs.declared.fault.InFault.{InFault}
use Rattle.adf_serve.specs.declared.fault.CommandFault.{CommandFault}
use Rattle.adf_serve.specs.declared.fault.CommandFault.TheVariants.{Dos, Refused}
use Rattle.adf_serve.specs.Changed.{IsExplained, IsPrinted, IsToldIn, Tries, deletes_all}
use Rattle.adf_serve.specs.Explained.{IsDeniedPath}
use Rattle.adf_serve.specs.Faults.{IsNoImageRefusal}
use Rattle.adf_serve.specs.NewImages.{IsUnmade}
use Rattle.adf_serve.specs.NewImages.Made.{AChanged}

-- the fault of a change is not the refusal of an image
pub told_no_image : (fault : InFault) (told : CommandFault) → IsToldIn fault told → IsNoImageRefusal told
told_no_image fault (Refused refusal) is = absurd is
told_no_image fault told is = tt

-- a refusal is printed as it is
pub printed_as : (change : Change) (image : List ℕ) (told printed : Told) → printed ≡ told → IsPrinted change image told printed
printed_as change image told printed same = subst (IsPrinted change image told) (sym same) (record { error = refl; path = inl refl })

-- it is printed with the path of a protected entry below its own
pub printed_below : (change : Change) (image : List ℕ) (told : Told) (path : String Global) (printed : Told) → printed ≡ record { error = told.error; path = path } → deletes_all change ≡ true
    → told.error ≡ DeleteProtected → IsDeniedPath image (string_bytes told.path) (string_bytes path) → IsPrinted change image told printed
printed_below change image told path printed same all protected below =
    subst (IsPrinted change image told) (sym same) (record { error = refl; path = inr (record { all = all; protected = protected; path = below }) })

-- the fault of a change is its refusal, as it is
pub told_explained : (change : Change) (image : List ℕ) (fault : InFault) (told : CommandFault) → IsToldIn fault told → IsExplained change image fault told
told_explained change image fault (Dos refusal) is = (refusal.refused, is, printed_as change image refusal.refused refusal.refused refl)
told_explained change image fault told is = is

-- the change of a job is refused
pub explained_unmade : (job : ChangeJob) (new : Shown) (fault : InFault) (told : CommandFault) → Tries job new (Err fault) → IsExplained job.change new.image fault told → IsUnmade (AChanged job) told
explained_unmade job new fault (Refused refusal) tries is = absurd is
explained_unmade job new fault (Dos refusal) tries is = (new, fault, tries, is)
explained_unmade job new fault told tries is = tt
