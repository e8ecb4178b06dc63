-- The text of a date to the second.
use Rattle.std.specs.Prelude.{◌≡◌, ℕ, ◌==◌, List, ◌++◌, take, position}
use Rattle.std.specs.Option.{option_map_or}
use Rattle.ados_name.specs.declared.stamp.Date3.{Date3}
use Rattle.ados_name.specs.Date.{IsTextOf}

-- the text of a date without hundredths of a second: up to its full stop, if it has one
abbrev pub to_second : List ℕ → List ℕ
to_second date = option_map_or (λ place. take place date) (position (λ c. c == 46) date) date

-- the text is that of a date without hundredths of a second
abbrev pub IsSecondOf : Date3 → List ℕ → Type 0
IsSecondOf date text = (whole : List ℕ) × IsTextOf date whole × (text ≡ to_second whole)

-- such a text is appended
abbrev pub PushesSecond : List ℕ → List ℕ → Date3 → Type 0
PushesSecond old new date = (text : List ℕ) × IsSecondOf date text × (new ≡ old ++ text)
