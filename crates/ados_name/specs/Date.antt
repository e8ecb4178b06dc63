-- The text of a date.
use Rattle.std.specs.Prelude.{◌≡◌, ℕ, ◌+◌, ◌*◌, ◌/◌, ◌%◌, Bool, ◌&&◌, nat_le, nat_lt, List, [], ◌∷◌, ◌++◌, codes, MatchBool}
use Rattle.std.specs.Fmt.{decimal}
use Rattle.jiff.specs.Types.{Date}
use Rattle.jiff.specs.Words.{date_text}
use Rattle.ados_name.specs.declared.stamp.Date3.{Date3}
use Rattle.ados_name.specs.CivilDay.{IsDaysAfterEpoch}

-- a number below 100 as two digits
abbrev pub two_digits : ℕ → List ℕ
two_digits n = (48 + n / 10) ∷ (48 + n % 10) ∷ []

-- the day is at most 31 December 9999, and the minutes and ticks are a time of day
abbrev pub has_civil_text : Date3 → Bool
has_civil_text d = nat_le d.days 2_929_974 && nat_lt d.minutes 1_440 && nat_lt d.ticks 3_000

-- `YYYY-MM-DD hh:mm:ss.cc`
abbrev pub civil_text : Date → ℕ → ℕ → List ℕ
civil_text date minutes ticks =
    date_text date ++ codes " " ++ two_digits (minutes / 60) ++ codes ":" ++ two_digits (minutes % 60)
    ++ codes ":" ++ two_digits (ticks / 50) ++ codes "." ++ two_digits (2 * (ticks % 50))

-- `raw DAYS MINUTES TICKS`
abbrev pub raw_text : Date3 → List ℕ
raw_text d = codes "raw " ++ decimal d.days ++ codes " " ++ decimal d.minutes ++ codes " " ++ decimal d.ticks

-- the text of a date: its calendar date and time if it has both, else its three numbers
abbrev pub IsTextOf : Date3 → List ℕ → Type 0
IsTextOf d text =
    MatchBool (has_civil_text d)
    ((date : Date) × IsDaysAfterEpoch d.days date × (text ≡ civil_text date d.minutes d.ticks))
    (text ≡ raw_text d)
