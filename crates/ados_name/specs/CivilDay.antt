-- The calendar date of a day number.
use Rattle.std.specs.Prelude.{◌≡◌, ℕ, pos, ◌+ℤ◌}
use Rattle.jiff.specs.Types.{Date}
use Rattle.jiff.specs.Words.{epoch_day, IsYmd}

-- the date is this many days after 1 January 1978
pub record IsDaysAfterEpoch (days : ℕ) (date : Date) : Type 0 where
  pub epoch : Date
  pub epoch_is : IsYmd (pos 1978) (pos 1) (pos 1) epoch
  pub number : epoch_day date ≡ epoch_day epoch +ℤ pos days
