use Rattle.ados_salvage.proofs.Common.{ℕ, ◌+◌, List, arith, sym, subst, ◌∙◌, IsHole}
use Rattle.adf_block.specs.Frame.{SameBut}
use Rattle.adf_block.proofs.Frames.{same_count}
use Rattle.ados_salvage.proofs.Emptying.{AreEmptyBelow, emptied_more, none_emptied}
use Rattle.ados_salvage.proofs.holes.emptied.Goals as goal
use Rattle.ados_salvage.proofs.holes.emptied.Goals.{then-is_hole, else-is_hole}

pub empty-requires : goal.empty-requires
empty-requires c =
    omega (arith, c.loop-block-test.true, c.blocks-block-end.ensures.count, same_count (λ block at. IsHole c.args.holes.now block) c.args.image c.loop-block.image c.loop-block.invariant.rest)

pub loop-block-preserved : goal.loop-block-preserved
loop-block-preserved c =
    let holes = c.args.holes.now in
    elim c.if-is_hole.branch [
      | then-is_hole w ↦
          (let more = emptied_more holes c.loop-block.block c.args.image c.loop-block.image w.empty.new.image c.loop-block.invariant.empty (sym c.is_hole.ensures ∙ w.if-is_hole.true) c.loop-block.invariant.rest w.empty.ensures.empty w.empty.ensures.rest in
          record {
            rest = subst (SameBut (λ block at. IsHole holes block) c.args.image) (sym w.image-is) more.0;
            empty = subst (λ (image : List ℕ). AreEmptyBelow holes image (c.loop-block.block + 1)) (sym w.image-is) more.1;
          })
      | else-is_hole w ↦ record {
        rest = subst (SameBut (λ block at. IsHole holes block) c.args.image) (sym w.image-is) c.loop-block.invariant.rest;
        empty = subst (λ (image : List ℕ). AreEmptyBelow holes image (c.loop-block.block + 1)) (sym w.image-is)
            (none_emptied holes c.loop-block.block c.args.image c.loop-block.image c.loop-block.image c.loop-block.invariant.empty (λ hole. absurd (cc (hole, c.is_hole.ensures, w.if-is_hole.false))));
      }
    ]

pub returns : goal.returns
returns c = record {
  rest = c.loop-block.invariant.rest;
  empty = λ block l hole. c.loop-block.invariant.empty block (omega (arith, l, c.loop-block-test.false, c.blocks-block-end.ensures.count)) hole;
}
