use Rattle.ados_salvage.proofs.Common.{ℕ, ◌≤◌, arith, below_more}
use Rattle.ados_census.specs.Fillers.{HoldsFiller}
use Rattle.ados_model.specs.declared.role.Role.TheVariants.{Data}
use Rattle.ados_model.specs.Faults.{Reached}
use Rattle.ados_salvage.proofs.holes.reaches_filler.Goals as goal

pub loop-block-init : goal.loop-block-init
loop-block-init c = λ block below two file reached holds. absurd (omega (arith, below, two))

pub loop-block-preserved : goal.loop-block-preserved
loop-block-preserved c =
    below_more (λ (block : ℕ). 2 ≤ block → (file : ℕ) → Reached c.args.image.now block (Data file) → ¬ HoldsFiller c.args.image.now block) c.loop-block.block c.loop-block.invariant
    (λ two. c.is_reached_filler.ensures c.if-is_reached_filler.false)

pub returns : goal.returns
returns c = λ same block file inside.
    c.loop-block.invariant block (omega (arith, inside.1, c.loop-block-test.false, c.blocks-block-end.ensures.count)) inside.0 file
