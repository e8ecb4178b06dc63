use Rattle.std.proofs.Common.{◌≡◌, ℕ, [], length}
use Rattle.adf_rescue.specs.Missing.{values_at}
use Rattle.adf_rescue.proofs.missing.no_numbers.Given as goal

-- so many empty lists
abbrev pub invariant-loop-place : goal.invariant-loop-place
invariant-loop-place l = record {
  count : length l.numbers.items ≡ l._place;
  none : (place : ℕ) → values_at l.numbers.items place ≡ [];
}
