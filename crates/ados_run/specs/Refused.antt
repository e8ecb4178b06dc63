-- Why an image is returned without a run.
use Rattle.std.specs.Prelude.{◌≡◌, Bool, List, ℕ}
use Rattle.ados_model.specs.Accepted.{Accepts, IsRefusal}
use Rattle.ados_run.specs.declared.run.RunFault.{RunFault}
use Rattle.ados_run.specs.declared.run.RunFault.TheVariants.{Rejected, NoMemory}

-- the image is returned: unchanged, with a fault that it shows; or, if there was no memory for the run, as it was
-- accepted
abbrev pub IsRunFault : List ℕ → RunFault → Type 0
IsRunFault image (Rejected rejected) = (rejected.image ≡ image) × IsRefusal image rejected.fault
IsRunFault image (NoMemory accepted) = (was_validated : Bool) × Accepts image was_validated accepted
