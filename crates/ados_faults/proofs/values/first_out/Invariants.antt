use Rattle.ados_faults.proofs.Common.{ℕ, ◌<◌, LeadsOut}
use Rattle.ados_faults.proofs.values.first_out.Given as goal

abbrev pub invariant-loop-i : goal.invariant-loop-i
invariant-loop-i l = (j : ℕ) → j < l.i → ¬ LeadsOut l.image l.role l.block j
