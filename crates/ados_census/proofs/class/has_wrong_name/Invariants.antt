use Rattle.std.proofs.Common.{ℕ, ◌<◌}
use Rattle.ados_census.specs.Classes.{IsSeparatorAt, mended}
use Rattle.ados_census.proofs.class.has_wrong_name.Given as goal

abbrev pub invariant-loop-p : goal.invariant-loop-p
invariant-loop-p l = (p : ℕ) → p < l.p → ¬ IsSeparatorAt (mended l.image l.block l.wrong) p
