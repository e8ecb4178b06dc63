use Rattle.std.proofs.Common.{arith}
use Rattle.ados_salvage.specs.steps.Mending.{NamesSome}
use Rattle.ados_salvage.proofs.Naming.{names_inside}
use Rattle.ados_salvage.proofs.NamedBlocks.{adds_next, marks_named}
use Rattle.ados_salvage.proofs.mended.named_marks.Goals as goal

pub loop-block-preserved : goal.loop-block-preserved
loop-block-preserved c =
    adds_next (NamesSome c.args.known.now.left_out c.args.known.now.image) c.loop-block.block _ c.loop-block.named.items c.mark_named.new.named.items c.loop-block.invariant c.mark_named.ensures

pub returns : goal.returns
returns c =
    let out = c.args.known.now.left_out in
    let image = c.args.known.now.image in
    marks_named out image c.loop-block.block _ c.loop-block.named.items c.in_ok-named.ensures (omega (arith, c.loop-block-test.false, c.blocks-block-end.ensures.count))
    (λ holder names. names_inside out image (omega (arith, c.blocks-block-end.ensures.count, c.blocks-block-end.ensures.size)) names) c.loop-block.invariant
