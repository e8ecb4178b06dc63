use Rattle.ados_validate.proofs.Common.{ℕ, ◌<◌, ◌≤◌, HasFreeBit, IsSoundHeader}
use Rattle.ados_validate.proofs.cautions.lost_header.Given as goal

abbrev pub invariant-loop-block : goal.invariant-loop-block
invariant-loop-block l = (k : ℕ) → 2 ≤ k → k < l.block → HasFreeBit l.new k → ¬ HasFreeBit l.old k → ¬ IsSoundHeader l.old k
