-- The overall status of images.
use Rattle.std.specs.Prelude.{◌≡◌, ℕ, zero, suc, ◌+◌, ◌-◌, ◌^◌, min, nat_lt, Bool, true, false, List, fold, Result, Ok, Err, ⊤}
use Rattle.adf_archive.specs.declared.fault.ArchiveFault.{ArchiveFault}
use Rattle.adf_archive.specs.declared.fault.ArchiveFault.TheVariants as faults
use Rattle.adf_archive.specs.declared.report.ImageReport.{ImageReport}
use Rattle.adf_archive.specs.declared.report.ImageReport.TheVariants.{Accepted, Refused, WrongSize, NotChecked}
use Rattle.adf_archive.specs.declared.telling.Tally.{Tally}

-- one more; the number stays below that of all values of a `u64`
abbrev pub one_more : ℕ → ℕ
one_more n = min (n + 1) (2 ^ 64 - 1)

-- the status with one more image
abbrev pub noted : Tally → ImageReport → Tally
noted tally (Accepted told) = record { accepted = one_more tally.accepted; refused = tally.refused; not_checked = tally.not_checked }
noted tally (Refused told) = record { accepted = tally.accepted; refused = one_more tally.refused; not_checked = tally.not_checked }
noted tally (WrongSize fault) = record { accepted = tally.accepted; refused = one_more tally.refused; not_checked = tally.not_checked }
noted tally (NotChecked why) = record { accepted = tally.accepted; refused = tally.refused; not_checked = one_more tally.not_checked }

-- the status with these images added
abbrev pub tallied : Tally → List ImageReport → Tally
tallied tally reports = fold noted tally reports

abbrev pub no_images : Tally
no_images = record { accepted = 0; refused = 0; not_checked = 0 }

-- the status of these images
abbrev pub IsTally : List ImageReport → Tally → Type 0
IsTally reports tally = tally ≡ tallied no_images reports

-- how a command ends: first by whether an image was not checked, then by whether one is refused
abbrev pub ends : Bool → Bool → Result (Unit {0}) ArchiveFault
ends true refused = Err faults.NotChecked
ends false true = Err faults.Refused
ends false false = Ok tt

abbrev pub ends_as : Tally → Result (Unit {0}) ArchiveFault
ends_as tally = ends (nat_lt 0 tally.not_checked) (nat_lt 0 tally.refused)

-- how a command ends over this many images: over none as if one was not checked
abbrev pub ends_over : ℕ → Tally → Result (Unit {0}) ArchiveFault
ends_over zero tally = Err faults.NotChecked
ends_over (suc n) tally = ends_as tally

-- the output failed, or memory ran out
abbrev pub IsBroken : ArchiveFault → Type 0
IsBroken faults.Output = ⊤
IsBroken faults.Memory = ⊤
IsBroken fault = ⊥
