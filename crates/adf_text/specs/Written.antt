-- Dates as a person writes them: the text of a date, whose last parts may be left out.
use Rattle.std.specs.Prelude.{◌⊎◌, List, ℕ, ◌++◌, codes}
use Rattle.ados_name.specs.declared.stamp.Date3.{Date3}
use Rattle.ados_name.specs.Date.{IsTextOf}
use Rattle.adf_text.specs.Dated.{IsStamp}

-- the text of a date: whole, or without its zero hundredths, without its zero seconds, or without its time, midnight
abbrev pub IsWritten : Date3 → List ℕ → Type 0
IsWritten date text =
    IsTextOf date text
    ⊎ (IsTextOf date (text ++ codes ".00") ⊎ (IsTextOf date (text ++ codes ":00.00") ⊎ IsTextOf date (text ++ codes " 00:00:00.00")))

-- the text is no written date
abbrev pub HasNoWritten : List ℕ → Type 0
HasNoWritten text = (date : Date3) → IsStamp date → IsWritten date text → ⊥
