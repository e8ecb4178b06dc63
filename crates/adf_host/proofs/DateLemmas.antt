-- Dates and times of a host.
use Rattle.std.proofs.Common.{◌≡◌, ◌+◌, ◌*◌, ◌<◌, ◌≤◌, ⊎_elim, arith}
use Rattle.std.proofs.lemmas.Bool.{cases_lt}
use Rattle.ados_name.specs.declared.stamp.Date3.{Date3}
use Rattle.adf_host.specs.Dates.{ticks_of, first_ticks, last_day, nanos_of, IsWithinDay, IsDateAt}

-- a number of ticks belongs to one date
same_date : (d e : Date3) → IsWithinDay d → IsWithinDay e → ticks_of e ≡ ticks_of d → e ≡ d
same_date d e is its same =
    let days : e.days ≡ d.days = omega (arith, same, is.minutes, is.ticks, its.minutes, its.ticks) in
    let minutes : e.minutes ≡ d.minutes = omega (arith, same, days, is.minutes, is.ticks, its.minutes, its.ticks) in
    let ticks : e.ticks ≡ d.ticks = omega (arith, same, days, minutes) in
    λ i. record { days = days i; minutes = minutes i; ticks = ticks i }

-- the date of a date's time has equally many ticks
same_ticks : (d e : Date3) → IsWithinDay d → d.days < last_day → IsDateAt (nanos_of d) e → ticks_of e ≡ ticks_of d
same_ticks d e is early at =
    let first : 20000000 * first_ticks ≤ nanos_of d = omega arith in
    let reached : nanos_of e ≤ nanos_of d = at.reached first in
    ⊎_elim
    (λ (its : e.days < last_day). let last : nanos_of d < nanos_of e + 20000000 = at.last its first in omega (arith, reached, last))
    (λ (late : last_day ≤ e.days). absurd (omega (arith, late, early, is.minutes, is.ticks, reached)))
    (cases_lt e.days last_day)

pub date_comes_back : (d e : Date3) → IsWithinDay d → d.days < last_day → IsDateAt (nanos_of d) e → e ≡ d
date_comes_back d e is early at = same_date d e is at.proper (same_ticks d e is early at)
