use Rattle.std.proofs.Common.{false, get_or, refl, arith}
use Rattle.adf_cli.proofs.Marking.{marked_more, marked_none}
use Rattle.adf_cli.proofs.bad_list.marked.Goals as goal

pub loop-block-init : goal.loop-block-init
loop-block-init c =
    marked_none c.args.blocks c.args.before.items c.resize.new.self.items (omega (arith, c.in_ok-resize.ensures.len, c.resize.new.self.ok.0))
    (λ k l there. c.in_ok-resize.ensures.by_index.0 k false l (omega (arith, there, c.args.before.ok.0)))
    (λ k past l. c.in_ok-resize.ensures.by_index.1 k false refl (omega (arith, past, c.args.before.ok.0)) l)

pub loop-block-preserved : goal.loop-block-preserved
loop-block-preserved c =
    let bad = c.args.bad.now in
    let i = c.loop-block.block-index in
    marked_more c.args.blocks c.args.before.items bad i c.loop-block-test.true (get_or bad i 0) refl (c.requires i 0 c.loop-block-test.true) c.loop-block.marks.items c.loop-block.invariant
