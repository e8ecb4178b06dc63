use Rattle.std.proofs.Common.{ℕ, ◌<◌}
use Rattle.ados_census.specs.steps.Reaching.{IsReachedIn}
use Rattle.ados_census.proofs.reached.Reached.has.Given as goal

abbrev pub invariant-loop-form : goal.invariant-loop-form
invariant-loop-form l = (k : ℕ) → k < l.form → ¬ IsReachedIn l.self l.block k
