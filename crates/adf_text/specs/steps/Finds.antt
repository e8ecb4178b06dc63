-- The results of parts of the reader for dates. They hold for a text with a date; for any other, nothing is promised.
use Rattle.std.specs.Prelude.{◌≡◌, ℕ, ◌+◌, ◌*◌, ◌-◌, ◌<◌, ◌^◌, List, ◌∷◌, ◌++◌, Option, Some, IsSomeAnd}
use Rattle.std.specs.Borrow.{Bor}
use Rattle.std.specs.Fmt.{decimal}
use Rattle.jiff.specs.Types.{Date}
use Rattle.jiff.specs.Words.{date_text}
use Rattle.ados_name.specs.declared.stamp.Date3.{Date3}
use Rattle.ados_name.specs.CivilDay.{IsDaysAfterEpoch}
use Rattle.ados_name.specs.Date.{civil_text}
use Rattle.adf_text.specs.Dated.{IsStamp, StandsApart, BeginsWithDate}

-- the date at the start of the text
abbrev pub FindsDate : List ℕ → Option Date3 → Type 0
FindsDate text found = (date : Date3) (behind : List ℕ) → IsStamp date → BeginsWithDate text date behind → found ≡ Some date

-- the calendar date and time of day at the start of the text
abbrev pub FindsCivil : List ℕ → Option Date3 → Type 0
FindsCivil text found = (date : Date3) (civil : Date) (behind : List ℕ)
    → IsStamp date → IsDaysAfterEpoch date.days civil → date.minutes < 1440 → date.ticks < 3000
    → text ≡ civil_text civil date.minutes date.ticks ++ behind → found ≡ Some date

-- the day of the text
abbrev pub FindsDay : List ℕ → Option ℕ → Type 0
FindsDay text found = (days : ℕ) (civil : Date) → days < 2 ^ 32 → IsDaysAfterEpoch days civil → text ≡ date_text civil → found ≡ Some days

-- the three numbers at the start of the text
abbrev pub FindsNumbers : List ℕ → Option Date3 → Type 0
FindsNumbers text found = (date : Date3) (behind : List ℕ) → IsStamp date → StandsApart behind
    → text ≡ 32 ∷ (decimal date.days ++ 32 ∷ (decimal date.minutes ++ 32 ∷ (decimal date.ticks ++ behind))) → found ≡ Some date

-- the number after a space, and the rest after it
abbrev pub FindsNumber : List ℕ → Option (ℕ × Bor (List ℕ)) → Type 0
FindsNumber text found = (n : ℕ) (behind : List ℕ) → n < 2 ^ 32 → StandsApart behind → text ≡ 32 ∷ (decimal n ++ behind)
    → IsSomeAnd found (λ f. (f.0 ≡ n) × (f.1.now ≡ behind))

-- the number of two digits
abbrev pub pair : ℕ → ℕ → ℕ
pair tens ones = 10 * (tens - 48) + (ones - 48)
