use Rattle.std.proofs.Common.{arith, below_more}
use Rattle.adf_block.specs.Image.{long}
use Rattle.ados_census.specs.steps.Reaching.{cell}
use Rattle.ados_census.proofs.Reaching.{all_passed, kept_on, kept_same, passed_below}
use Rattle.ados_census.proofs.reached.Walk.go_through.Goals as goal

pub loop-i-init : goal.loop-i-init
loop-i-init c = record {
  walked = c.requires.walked;
  kept = kept_same c.args.self.now;
  below = passed_below c.args.image.now c.args.self.now.cells.items c.args.step c.requires.walked.whole;
}

pub loop-i-preserved : goal.loop-i-preserved
loop-i-preserved c =
    let done = c.in_ok-visit.ensures in
    record {
      walked = done.walked;
      kept = kept_on c.loop-i.invariant.kept done.kept;
      below = below_more _ _ (λ k l next place inside. done.kept.marks_stay (cell (long c.args.image.now c.args.step.block k) next) (c.loop-i.invariant.below k l next place inside)) done.passed;
    }

pub returns-clause-passed : goal.returns-clause-passed
returns-clause-passed c =
    all_passed c.args.image.now c.loop-i.self.cells.items c.args.step c.requires.walked.whole (λ i l. c.loop-i.invariant.below i (omega (arith, l, c.loop-i-test.false)))
