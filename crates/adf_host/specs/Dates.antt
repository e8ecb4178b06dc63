-- Dates as times of a host, in nanoseconds since 1970, and the way back.
use Rattle.std.specs.Prelude.{◌≡◌, ℕ, ◌+◌, ◌*◌, ◌<◌, ◌≤◌}
use Rattle.ados_name.specs.declared.stamp.Date3.{Date3}

-- the ticks from 1 January 1978 to a date
abbrev pub ticks_of : Date3 → ℕ
ticks_of d = 4320000 * d.days + 3000 * d.minutes + d.ticks

-- 1 January 1978, in ticks since 1970: 2,922 days
abbrev pub first_ticks : ℕ
first_ticks = 12623040000

-- the day with the largest number, 2^32 - 1
abbrev pub last_day : ℕ
last_day = 4294967295

-- a date as a host's time; a tick is 20 milliseconds
abbrev pub nanos_of : Date3 → ℕ
nanos_of d = 20000000 * (first_ticks + ticks_of d)

-- the minutes and the ticks are a time of day
pub record IsWithinDay (d : Date3) : Type 0 where
  pub minutes : d.minutes < 1440
  pub ticks : d.ticks < 3000

-- the date of a time: its tick is the last that is not after the time; times before all dates and after all dates are
-- the first and the last date
pub record IsDateAt (nanos : ℕ) (d : Date3) : Type 0 where
  pub proper : IsWithinDay d
  pub before : nanos < 20000000 * first_ticks → ticks_of d ≡ 0
  pub reached : 20000000 * first_ticks ≤ nanos → nanos_of d ≤ nanos
  pub last : d.days < last_day → 20000000 * first_ticks ≤ nanos → nanos < nanos_of d + 20000000

-- Law: a date with a valid time of day is the date of its own time.
abbrev pub DatesComeBack : Type 0
DatesComeBack = (d e : Date3) → IsWithinDay d → d.days < last_day → IsDateAt (nanos_of d) e → e ≡ d
