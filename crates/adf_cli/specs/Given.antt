-- Arguments that are not UTF-8, and those without protection bits.
use Rattle.std.specs.Prelude.{◌≡◌, ℕ, List, None, ⊤}
use Rattle.std.specs.Str.{IsUtf8}
use Rattle.adf_text.specs.ProtectWords.{protect_word}
use Rattle.adf_cli.specs.declared.fault.WordsFault.{WordsFault}
use Rattle.adf_cli.specs.declared.fault.WordsFault.TheVariants.{Usage, Memory}

-- a wrong command line is reported only if this holds
abbrev pub TellsOf : Type 0 → WordsFault → Type 0
TellsOf why (Usage told) = why
TellsOf why Memory = ⊤

-- a wrong command line is reported only if the argument is not UTF-8
abbrev pub TellsForeign : List ℕ → WordsFault → Type 0
TellsForeign bytes = TellsOf (¬ (IsUtf8 bytes))

-- a wrong command line is reported only if the argument is no word for protection bits
abbrev pub TellsNoBits : List ℕ → WordsFault → Type 0
TellsNoBits text = TellsOf (protect_word text ≡ None)
