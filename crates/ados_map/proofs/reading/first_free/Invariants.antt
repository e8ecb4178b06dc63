use Rattle.ados_map.proofs.Common.{◌≡◌, ◌<◌, ◌+◌, ◌*◌, ℕ, false, IsInside, block_count, has_free_bit}
use Rattle.ados_map.proofs.reading.first_free.Given as goal

abbrev pub invariant-loop-w : goal.invariant-loop-w
invariant-loop-w l = (k : ℕ) → IsInside (block_count l.image) k → k < 2 + 32 * l.w → has_free_bit l.image k ≡ false
