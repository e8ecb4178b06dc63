use Rattle.std.proofs.Common.{ℕ, ◌<◌}
use Rattle.ados_census.specs.steps.Placing.{IsGivenIn}
use Rattle.ados_census.proofs.places.is_place.Given as goal

abbrev pub invariant-loop-form : goal.invariant-loop-form
invariant-loop-form l = (k : ℕ) → k < l.form → ¬ IsGivenIn l.reached l.place k
