use Rattle.ados_check.proofs.Common.{arith, below_more}
use Rattle.ados_check.proofs.UpperNames.{entry_below}
use Rattle.ados_check.proofs.entries.check_files.Goals as goal

pub loop-block-preserved : goal.loop-block-preserved
loop-block-preserved c = below_more _ _ c.loop-block.invariant c.in_ok-check_marked.ensures

pub returns : goal.returns
returns c = λ file dir m e.
    let below = entry_below c.args.marks.now file dir m in
    c.loop-block.invariant file (omega (arith, below, c.requires.size, c.blocks-block-end.ensures.count, c.loop-block-test.false)) dir m e
