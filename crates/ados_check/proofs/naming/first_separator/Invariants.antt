use Rattle.ados_check.proofs.Common.{◌≡◌, ℕ, ◌<◌, false, slice_index, is_separator}
use Rattle.ados_check.proofs.naming.first_separator.Given as goal

abbrev pub invariant-loop-place : goal.invariant-loop-place
invariant-loop-place l = (k : ℕ) → k < l.place → is_separator (slice_index l.text k) ≡ false
