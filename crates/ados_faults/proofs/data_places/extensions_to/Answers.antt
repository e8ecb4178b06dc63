use Rattle.ados_faults.proofs.Common.{◌<◌, ap, sym, ◌∙◌, arith, block_count, is_extension}
use Rattle.ados_faults.proofs.Above.{one_on}
use Rattle.ados_faults.proofs.data_places.extensions_to.Goals as goal

pub loop-passed-preserved : goal.loop-passed-preserved
loop-passed-preserved c =
    let within : c.loop-passed.passed < block_count c.args.image.now = omega (arith, c.loop-passed-test.true, c.blocks-passed-end.ensures.count) in
    one_on c.args.marks.now (block_count c.args.image.now) c.loop-passed.passed c.args.block c.loop-passed.here c.in_ok-mark.mark c.loop-passed.invariant within
    (sym c.mark_at.ensures ∙ c.in_ok-mark.was) (ap is_extension c.in-Extension.is)
