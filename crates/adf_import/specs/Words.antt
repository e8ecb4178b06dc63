-- Arguments of a command as bytes of an Amiga's text, and their faults.
use Rattle.std.specs.Prelude.{◌≡◌, ℕ, List, All, Contains, None, ⊤}
use Rattle.std.specs.Str.{chars}
use Rattle.std.specs.String.{string_bytes}
use Rattle.ados_model.specs.declared.dos_error.DosError.{DosError}
use Rattle.adf_text.specs.Letters.{IsByte}
use Rattle.adf_text.specs.ProtectWords.{protect_word}
use Rattle.adf_import.specs.declared.fault.InFault.{InFault}
use Rattle.adf_import.specs.declared.fault.InFault.TheVariants.{Bits, Letter, Memory, Refused}

-- a text with a letter past U+00FF
abbrev pub IsForeign : List ℕ → Type 0
IsForeign text = ¬ All IsByte (chars text)

-- the fault is about this argument, which has such a letter; or memory ran out
abbrev pub IsLetterFault : List ℕ → InFault → Type 0
IsLetterFault word (Letter text) = (string_bytes text ≡ word) × IsForeign word
IsLetterFault word Memory = ⊤
IsLetterFault word _ = ⊥

-- the fault is about one of these arguments
abbrev pub IsLetterFaultIn : List (List ℕ) → InFault → Type 0
IsLetterFaultIn words (Letter text) = Contains words (string_bytes text) × IsForeign (string_bytes text)
IsLetterFaultIn words Memory = ⊤
IsLetterFaultIn words _ = ⊥

-- the fault is this error for the argument, or there was no memory to report it
abbrev pub IsRefusal : DosError → List ℕ → InFault → Type 0
IsRefusal error word (Refused refused) = (refused.error ≡ error) × (string_bytes refused.path ≡ word)
IsRefusal error word Memory = ⊤
IsRefusal error word _ = ⊥

-- the fault is about this argument, which is no word for protection bits; or memory ran out
abbrev pub IsBitsFault : List ℕ → InFault → Type 0
IsBitsFault word (Bits text) = (string_bytes text ≡ word) × (protect_word (chars word) ≡ None)
IsBitsFault word Memory = ⊤
IsBitsFault word _ = ⊥
