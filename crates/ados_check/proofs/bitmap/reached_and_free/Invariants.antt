use Rattle.ados_check.proofs.Common.{◌≡◌, ◌<◌, ℕ, Some, HasFreeBit, Mark, mark_at}
use Rattle.ados_check.proofs.bitmap.reached_and_free.Given as goal

abbrev pub invariant-loop-block : goal.invariant-loop-block
invariant-loop-block l = (k : ℕ) → k < l.block → (mark : Mark) → mark_at l.marks k ≡ Some mark → ¬ HasFreeBit l.source.bytes k
