-- Dates for C, their texts, and their times on a host.
use Rattle.std.specs.Prelude.{◌≡◌, ℕ, ◌+◌, ◌*◌, ◌<◌, ◌≤◌, ℤ, pos, negsuc, List}
use Rattle.ados_name.specs.declared.stamp.Date3.{Date3}
use Rattle.ados_name.specs.Date.{IsTextOf}
use Rattle.adf_text.specs.Dated.{IsTextOfNone}
use Rattle.adf_host.specs.Dates.{IsDateAt, nanos_of}
use Rattle.adf_c.specs.Buffers.{Refuses}
use Rattle.adf_c.specs.Ends.{ComesTo}
use Rattle.adf_c.specs.declared.values.date.JipDate.{JipDate}
use Rattle.adf_c.specs.declared.values.refusal.Refusal.TheVariants.{WrongArgument}

-- the same date
abbrev pub date_of : JipDate → Date3
date_of d = record { days = d.days; minutes = d.minutes; ticks = d.ticks }

-- the same date for C
abbrev pub told_date : Date3 → JipDate
told_date d = record { days = d.days; minutes = d.minutes; ticks = d.ticks }

-- a date with a property is told; if it is refused, the date is unchanged
abbrev pub Dates : (Date3 → Type 0) → JipDate → Type 0
Dates is after = (date : Date3) × is date × (after ≡ told_date date)

-- the date of a text, if one has this text
abbrev pub DateOfTextEnds : List ℕ → JipDate → JipDate → ℤ → Type 0
DateOfTextEnds text before after =
    ComesTo (Dates (λ date. IsTextOf date text) after)
    (λ refusal. Refuses (IsTextOfNone text) refusal × (after ≡ before))

-- nanoseconds in a second
abbrev pub second_nanos : ℕ
second_nanos = 1_000_000_000

-- a host's time in nanoseconds since 1970; a time before is the start of 1970
abbrev pub since_1970 : ℤ → ℕ → ℕ
since_1970 (pos seconds) nanoseconds = second_nanos * seconds + nanoseconds
since_1970 (negsuc before) nanoseconds = 0

-- the date of a time
abbrev pub DateOfTimeEnds : ℤ → ℕ → JipDate → JipDate → ℤ → Type 0
DateOfTimeEnds seconds nanoseconds before after =
    ComesTo ((nanoseconds < second_nanos) × Dates (IsDateAt (since_1970 seconds nanoseconds)) after)
    (λ refusal. (refusal ≡ WrongArgument) × (second_nanos ≤ nanoseconds) × (after ≡ before))

-- the time of a date, in whole seconds and the nanoseconds after them
pub record IsTimeOf (date : Date3) (seconds : ℤ) (nanoseconds : ℕ) : Type 0 where
  pub time : since_1970 seconds nanoseconds ≡ nanos_of date
  pub within : nanoseconds < second_nanos
