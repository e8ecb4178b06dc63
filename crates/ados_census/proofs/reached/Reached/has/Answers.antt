use Rattle.std.proofs.Common.{arith, below_more}
use Rattle.ados_census.proofs.Reaching.{unreached}
use Rattle.ados_census.proofs.reached.Reached.has.Goals as goal

pub loop-form-preserved : goal.loop-form-preserved
loop-form-preserved c = below_more _ _ c.loop-form.invariant (rw c.if-has_in_form.false at c.has_in_form.ensures)

pub returns-then-has_in_form : goal.returns-then-has_in_form
returns-then-has_in_form c = let is = rw c.if-has_in_form.true at c.has_in_form.ensures in (is.role, is.reached)

pub returns : goal.returns
returns c = unreached c.args.self.now c.args.block (λ k l. c.loop-form.invariant k (omega (arith, l, c.loop-form-test.false)))
