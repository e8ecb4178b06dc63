use Rattle.ados_salvage.proofs.Common.{get_or, arith, Contains-get_or}
use Rattle.ados_salvage.proofs.Filled.{pieced_more}
use Rattle.ados_salvage.proofs.pieces.pieced.Goals as goal

pub loop-at-preserved : goal.loop-at-preserved
loop-at-preserved c =
    pieced_more c.args.image.now c.args.pieces.now c.args.place c.args.count c.loop-at.bytes.items c.put.new.bytes.items (get_or c.args.pieces.now c.loop-at.at _)
    (Contains-get_or c.args.pieces.now c.loop-at.at _ (omega (arith, c.loop-at-test.true))) c.if-piece-place.false c.loop-at.invariant c.put.ensures.count c.put.ensures.put
