-- How a command ends that reports on an image, whether the image is accepted or refused.
use Rattle.std.specs.Prelude.{◌≡◌, ◌⊎◌, ℕ, Bool, true, false, List, Option, Some, Result, Ok, Err}
use Rattle.std.specs.Io.KnownBytes.{Keeps}
use Rattle.adf_io.specs.Prefix.{Writes, WritesFrontOf}
use Rattle.adf_serve.specs.declared.fault.CommandFault.{CommandFault}
use Rattle.adf_serve.specs.declared.fault.CommandFault.TheVariants.{Dos, LeftOut, NotWhole, Refused}
use Rattle.adf_serve.specs.Refusals.{dos_text, refusal_text, told_line}
use Rattle.adf_serve.specs.declared.refusal.Refusal.{Refusal}

-- a report of either kind
abbrev pub IsSomeText : (Bool → List ℕ → Type 0) → List ℕ → Type 0
IsSomeText IsText text = (whole : Bool) × IsText whole text

-- the result of the command before a refusal is printed: the report on an accepted image, also if a new image has not all of it, or on
-- another one; a refusal, if there is no report; or a fault by which the command may end
abbrev pub DoesReport : (IsText : Bool → List ℕ → Type 0) → (IsPlain : Refusal → Type 0) → (MayEnd : CommandFault → Type 0) → Option (List ℕ) → Option (List ℕ) → Result (Unit {0}) CommandFault → Type 0
DoesReport IsText IsPlain MayEnd old new (Ok done) = Writes old new (IsText true)
DoesReport IsText IsPlain MayEnd old new (Err LeftOut) = Writes old new (IsText true)
DoesReport IsText IsPlain MayEnd old new (Err NotWhole) = Writes old new (IsText false)
DoesReport IsText IsPlain MayEnd old new (Err (Refused refusal)) = Keeps old new × IsPlain refusal
DoesReport IsText IsPlain MayEnd old new (Err (Dos refusal)) = Keeps old new
DoesReport IsText IsPlain MayEnd old new (Err fault) = MayEnd fault × (Keeps old new ⊎ WritesFrontOf old new (IsSomeText IsText))

-- the result of the command after that
abbrev pub TellsReport : (json : Bool) → (IsText : Bool → List ℕ → Type 0) → (IsPlain : Refusal → Type 0) → (MayEnd : CommandFault → Type 0) → Option (List ℕ) → Option (List ℕ) → Result (Unit {0}) CommandFault → Type 0
TellsReport json IsText IsPlain MayEnd old new (Ok done) = Writes old new (IsText true)
TellsReport json IsText IsPlain MayEnd old new (Err LeftOut) = Writes old new (IsText true)
TellsReport json IsText IsPlain MayEnd old new (Err NotWhole) = Writes old new (IsText false)
TellsReport json IsText IsPlain MayEnd old new (Err (Refused refusal)) = IsPlain refusal × Writes old new (λ text. text ≡ refusal_text json refusal)
TellsReport json IsText IsPlain MayEnd old new (Err (Dos refusal)) = Writes old new (λ text. text ≡ dos_text json refusal)
TellsReport json IsText IsPlain MayEnd old new (Err fault) =
    MayEnd fault × (Keeps old new ⊎ WritesFrontOf old new (λ text. IsSomeText IsText text ⊎ ((told : CommandFault) × (told_line json told ≡ Some text))))
