use Rattle.ados_faults.proofs.Common.{arith, below_more}
use Rattle.ados_faults.proofs.Closing.{kept_on, kept_same, passed_below, passed_on, visited_by}
use Rattle.ados_faults.proofs.walk.Walk.go_through.Goals as goal

pub returns-then-not-has_places-clause-kept : goal.returns-then-not-has_places-clause-kept
returns-then-not-has_places-clause-kept c = kept_same c.args.self.now

pub returns-then-not-has_places-clause-visited : goal.returns-then-not-has_places-clause-visited
returns-then-not-has_places-clause-visited c =
    let none = c.has_places.ensures c.if-not-has_places.true c.args.image.now c.args.step.block in
    record { passed = λ i. record { met = λ next place inside. absurd (none i next place); outside = λ next place out. absurd (none i next place) } }

pub loop-i-init : goal.loop-i-init
loop-i-init c = record {
  walked = c.requires.walked;
  kept = kept_same c.args.self.now;
  below = passed_below c.args.image.now c.args.self.now c.args.step c.requires.walked.whole;
}

pub loop-i-preserved : goal.loop-i-preserved
loop-i-preserved c =
    let done = c.in_ok-visit.ensures in
    record {
      walked = done.walked;
      kept = kept_on c.loop-i.invariant.kept done.kept;
      below = below_more _ _ (λ k l. passed_on c.args.image.now c.loop-i.self c.visit.new.self c.args.step k done.kept (c.loop-i.invariant.below k l)) done.passed;
    }

pub returns-clause-visited : goal.returns-clause-visited
returns-clause-visited c =
    visited_by c.args.image.now c.loop-i.self c.args.step c.requires.walked.whole (λ i l. c.loop-i.invariant.below i (omega (arith, l, c.loop-i-test.false)))
