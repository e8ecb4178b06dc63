use Rattle.ados_validate.proofs.Common.{ℕ, ◌<◌, page_block, IsSafePage}
use Rattle.ados_validate.proofs.cautions.page_caution.Given as goal

abbrev pub invariant-loop-p : goal.invariant-loop-p
invariant-loop-p l = (q : ℕ) → q < l.p → IsSafePage l.old l.new (page_block l.old q)
