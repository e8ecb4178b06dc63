use Rattle.adf_block.proofs.Common.{◌≡◌, ℕ, ◌≤◌, length, slice_index}
use Rattle.adf_block.proofs.code_text.end_of.Given as goal

abbrev pub invariant-loop-end : goal.invariant-loop-end
invariant-loop-end l = (l.end ≤ length l.bytes) × ((k : ℕ) → l.end ≤ k → slice_index l.bytes k ≡ 0)

abbrev pub decreases-loop-end : goal.decreases-loop-end
decreases-loop-end l = l.end
