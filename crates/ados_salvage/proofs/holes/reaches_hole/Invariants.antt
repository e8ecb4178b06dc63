use Rattle.ados_salvage.proofs.Common.{ℕ, ◌<◌, ◌≤◌, IsHole}
use Rattle.ados_census.specs.Reached.{IsReached}
use Rattle.ados_salvage.proofs.holes.reaches_hole.Given as goal

-- the root leads to no hole before this block
abbrev pub invariant-loop-block : goal.invariant-loop-block
invariant-loop-block l = (block : ℕ) → block < l.block → 2 ≤ block → IsReached l.image block → ¬ IsHole l.holes block
