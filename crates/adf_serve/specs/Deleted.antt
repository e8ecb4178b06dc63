-- How `undelete` ends: what is told of deleted entries, or that nothing says which they are.
use Rattle.std.specs.Prelude.{◌≡◌, ℕ, Bool, true, false, List, [], codes, Option, Result, ⊤}
use Rattle.adf_rescue.specs.Undelete.{IsUndeleteFault}
use Rattle.adf_rescue.specs.declared.undelete_fault.UndeleteFault.{UndeleteFault}
use Rattle.adf_rescue.specs.declared.undelete_fault.UndeleteFault.TheVariants as undelete
use Rattle.adf_where.specs.Refused.{fault_reason, refused_object}
use Rattle.adf_cli.specs.declared.query.UndeleteJob.{UndeleteJob}
use Rattle.adf_serve.specs.declared.fault.CommandFault.{CommandFault}
use Rattle.adf_serve.specs.declared.fault.CommandFault.TheVariants.{Extracted, Memory, Undelete}
use Rattle.adf_serve.specs.Reports.{DoesReport, TellsReport}
use Rattle.adf_serve.specs.Rescues.{IsSomeSize}
use Rattle.adf_serve.specs.Texts.{AreDeletedLines}

-- what standard output has where the bitmap is not trusted: with `json` an object like that of a refused image, for which no block
-- stands, and else nothing
abbrev pub untrusted_text : Bool → List ℕ
untrusted_text true = refused_object (fault_reason (codes "UntrustedBitmap") 0)
untrusted_text false = []

-- what is told of the deleted entries of an image, or that its bitmap is not trusted
abbrev pub IsDeletedText : UndeleteJob → Bool → List ℕ → Type 0
IsDeletedText job true text = (image : List ℕ) × AreDeletedLines job image text
IsDeletedText job false text = (image : List ℕ) × IsUndeleteFault image undelete.NoTrustedBitmap × (text ≡ untrusted_text job.json)

-- a fault of it, as the fault of a command
abbrev pub IsToldUndelete : UndeleteFault → CommandFault → Type 0
IsToldUndelete (undelete.Host fault) told = told ≡ Extracted fault
IsToldUndelete undelete.Memory told = told ≡ Memory
IsToldUndelete fault told = told ≡ Undelete fault

-- it never ends for a bitmap without that text
abbrev pub IsUndeleteEnd : CommandFault → Type 0
IsUndeleteEnd (Undelete undelete.NoTrustedBitmap) = ⊥
IsUndeleteEnd fault = ⊤

-- the result of the command before a refusal is printed
abbrev pub DoesUndelete : UndeleteJob → Option (List ℕ) → Option (List ℕ) → Result (Unit {0}) CommandFault → Type 0
DoesUndelete job = DoesReport (IsDeletedText job) IsSomeSize IsUndeleteEnd

-- the result of the command after that
abbrev pub TellsUndelete : Bool → UndeleteJob → Option (List ℕ) → Option (List ℕ) → Result (Unit {0}) CommandFault → Type 0
TellsUndelete json job = TellsReport json (IsDeletedText job) IsSomeSize IsUndeleteEnd
