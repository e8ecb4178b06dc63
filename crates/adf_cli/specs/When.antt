-- Arguments that are dates or moments.
use Rattle.std.specs.Prelude.{◌≡◌, ◌≢◌, ℕ, List, Option, Some, None, codes}
use Rattle.ados_name.specs.declared.stamp.Date3.{Date3}
use Rattle.adf_text.specs.Written.{HasNoWritten, IsWritten}
use Rattle.adf_cli.specs.Given.{TellsOf}
use Rattle.adf_cli.specs.declared.fault.WordsFault.{WordsFault}

-- the moment of an argument: a written date, or none for `now`
abbrev pub IsWhen : List ℕ → Option Date3 → Type 0
IsWhen text (Some date) = IsWritten date text
IsWhen text None = text ≡ codes "now"

-- a wrong command line is reported only if the argument is neither a written date nor `now`
abbrev pub TellsNoWhen : List ℕ → WordsFault → Type 0
TellsNoWhen text = TellsOf (HasNoWritten text × (text ≢ codes "now"))
