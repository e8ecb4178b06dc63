use Rattle.ados_check.proofs.Common.{◌≢◌, ◌<◌, ℕ, primary_type, page_block}
use Rattle.ados_check.proofs.sketched.tells_bitmap.Given as goal

abbrev pub invariant-loop-p : goal.invariant-loop-p
invariant-loop-p l = (q : ℕ) → q < l.p → primary_type l.source.bytes (page_block l.source.bytes q) ≢ 8
