use Rattle.std.proofs.Common.{ℕ, ◌<◌, AllPairs, sym, subst}
use Rattle.adf_rescue.proofs.damaged.output_of.Goals as goal

pub of-requires-2-clause-order : goal.of-requires-2-clause-order
of-requires-2-clause-order c = subst (AllPairs (λ (a : ℕ) (b : ℕ). a < b)) (sym c.deref.ensures.value) c.in_ok-unaccounted.ensures.in_order
