use Rattle.std.proofs.Common.{◌≡◌, ◌<◌, ℕ, length}
use Rattle.adf_rescue.specs.Missing.{AreRuns, IsMissing, values_at}
use Rattle.adf_rescue.proofs.missing.missing_runs.Given as goal

-- the runs of the entries before this one
abbrev pub invariant-loop-place : goal.invariant-loop-place
invariant-loop-place l = record {
  count : length l.runs.items ≡ l.place;
  each : (place : ℕ) → place < l.place → AreRuns (IsMissing l.salvage place) (values_at l.runs.items place);
}
