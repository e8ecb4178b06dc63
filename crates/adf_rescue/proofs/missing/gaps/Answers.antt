use Rattle.std.proofs.Common.{◌++◌, min, ap, sym, subst, ◌∙◌, ◌+◌, ℕ}
use Rattle.adf_rescue.specs.Missing.{AreRuns, IsLeftOut, run_to}
use Rattle.adf_rescue.proofs.Runs.{AreRunsBelow, runs_all, runs_none, runs_on}
use Rattle.adf_rescue.proofs.missing.gaps.Goals as goal

pub loop-number-init : goal.loop-number-init
loop-number-init c = subst (AreRunsBelow c.args.numbers.now c.args.count 0 0) (sym c.new-runs.ensures.items) (runs_none c.args.numbers.now c.args.count)

pub loop-number-preserved : goal.loop-number-preserved
loop-number-preserved c =
    let numbers = c.args.numbers.now in
    let count = c.args.count in
    let i = c.loop-number.number-index in
    let number = c.from-number.result in
    let next = c.loop-number.next in
    let longer = c.in_ok-push_run.ensures ∙ ap (λ (behind : ℕ). c.loop-number.runs.items ++ run_to next behind) c.min.ensures in
    subst (AreRunsBelow numbers count (i + 1) (number + 1)) (sym longer)
    (runs_on numbers count i next c.loop-number.runs.items c.loop-number.invariant c.requires.order c.loop-number-test.true number c.from-number.ensures)

pub returns : goal.returns
returns c =
    let numbers = c.args.numbers.now in
    subst (AreRuns (IsLeftOut numbers c.args.count)) (sym c.in_ok-push_run-2.ensures)
    (runs_all numbers c.args.count c.loop-number.number-index c.loop-number.next c.loop-number.runs.items c.loop-number.invariant c.loop-number-test.false)
