use Rattle.ados_salvage.proofs.Common.{ℕ, ◌≤◌, List, arith, below_more, sym, subst, ◌∙◌, IsHole}
use Rattle.ados_census.specs.Reached.{IsReached}
use Rattle.ados_salvage.proofs.Emptying.{hole_none}
use Rattle.ados_salvage.proofs.holes.reaches_hole.Goals as goal

pub returns-then-is_empty : goal.returns-then-is_empty
returns-then-is_empty c = λ same block inside reached. hole_none c.args.holes.now (sym c.is_empty.ensures ∙ c.if-is_empty.true) block

pub loop-block-init : goal.loop-block-init
loop-block-init c = λ block below two reached hole. absurd (omega (arith, below, two))

pub loop-block-preserved : goal.loop-block-preserved
loop-block-preserved c =
    below_more (λ (block : ℕ). 2 ≤ block → IsReached c.args.image.now block → ¬ IsHole c.args.holes.now block) c.loop-block.block c.loop-block.invariant
    (λ two reached. c.is_reached_hole.ensures c.if-is_reached_hole.false (subst (λ (image : List ℕ). IsReached image c.loop-block.block) (sym c.in_ok-reached.ensures) reached))

pub returns : goal.returns
returns c = λ same block inside reached.
    c.loop-block.invariant block (omega (arith, inside.1, c.loop-block-test.false, c.blocks-block-end.ensures.count)) inside.0 reached
