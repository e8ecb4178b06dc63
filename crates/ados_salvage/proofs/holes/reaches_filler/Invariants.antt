use Rattle.ados_salvage.proofs.Common.{ℕ, ◌<◌, ◌≤◌}
use Rattle.ados_census.specs.Fillers.{HoldsFiller}
use Rattle.ados_model.specs.declared.role.Role.TheVariants.{Data}
use Rattle.ados_model.specs.Faults.{Reached}
use Rattle.ados_salvage.proofs.holes.reaches_filler.Given as goal

-- the root leads to no data block before this block that holds a filler
abbrev pub invariant-loop-block : goal.invariant-loop-block
invariant-loop-block l = (block : ℕ) → block < l.block → 2 ≤ block → (file : ℕ) → Reached l.image block (Data file) → ¬ HoldsFiller l.image block
