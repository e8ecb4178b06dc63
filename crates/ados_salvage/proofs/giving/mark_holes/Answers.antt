use Rattle.ados_salvage.proofs.Common.{◌<◌, ◌+◌, Bool, List, arith, true, ap, sym, subst, ◌∙◌, length, length-set}
use Rattle.ados_salvage.proofs.Emptying.{AreMarkedBelow, marked_more, none_marked}
use Rattle.ados_salvage.proofs.giving.mark_holes.Goals as goal
use Rattle.ados_salvage.proofs.giving.mark_holes.Goals.{then-is_hole, else-is_hole}

pub loop-block-preserved : goal.loop-block-preserved
loop-block-preserved c =
    let holes = c.args.holes.now in
    let inside : c.loop-block.block < length c.loop-block.given = omega (arith, c.loop-block-test.true, c.blocks-block-end.ensures.count, c.requires, c.loop-block.invariant.size) in
    elim c.if-is_hole.branch [
      | then-is_hole w ↦ record {
        size = ap length w.given-is ∙ length-set c.loop-block.given c.loop-block.block true ∙ c.loop-block.invariant.size;
        marked = subst (λ (given : List Bool). AreMarkedBelow holes given (c.loop-block.block + 1)) (sym w.given-is) (marked_more holes c.loop-block.given c.loop-block.block c.loop-block.invariant.marked inside);
      }
      | else-is_hole w ↦ record {
        size = ap length w.given-is ∙ c.loop-block.invariant.size;
        marked = subst (λ (given : List Bool). AreMarkedBelow holes given (c.loop-block.block + 1)) (sym w.given-is)
            (none_marked holes c.loop-block.given c.loop-block.block c.loop-block.invariant.marked (sym c.is_hole.ensures ∙ w.if-is_hole.false));
      }
    ]

pub returns-clause-marked : goal.returns-clause-marked
returns-clause-marked c = λ block l hole.
    c.loop-block.invariant.marked block (omega (arith, l, c.requires, c.blocks-block-end.ensures.count, c.loop-block-test.false, c.loop-block.invariant.size)) hole
