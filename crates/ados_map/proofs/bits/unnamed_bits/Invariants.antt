use Rattle.ados_map.proofs.Common.{◌≡◌, ◌<◌, ◌+◌, ◌*◌, ℕ, cond, bit_at, is_unnamed}
use Rattle.ados_map.proofs.bits.unnamed_bits.Given as goal

abbrev pub invariant-loop-i : goal.invariant-loop-i
invariant-loop-i l = (j : ℕ) → j < l.i → bit_at l.bits j ≡ cond (is_unnamed l.named (2 + 32 * l.w + j)) 1 0
