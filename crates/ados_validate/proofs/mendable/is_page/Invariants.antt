use Rattle.ados_validate.proofs.Common.{◌≢◌, ℕ, ◌<◌, page_block}
use Rattle.ados_validate.proofs.mendable.is_page.Given as goal

abbrev pub invariant-loop-p : goal.invariant-loop-p
invariant-loop-p l = (q : ℕ) → q < l.p → page_block l.image q ≢ l.block
