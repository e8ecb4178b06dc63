use Rattle.std.proofs.Common.{arith, below_more}
use Rattle.ados_census.proofs.Placing.{given_is, no_form_gives}
use Rattle.ados_census.proofs.places.is_place.Goals as goal

pub loop-form-preserved : goal.loop-form-preserved
loop-form-preserved c = below_more _ _ c.loop-form.invariant (rw c.if-is_place_in.false at c.is_place_in.ensures)

pub returns-then-is_place_in : goal.returns-then-is_place_in
returns-then-is_place_in c = given_is c.args.reached.now c.args.place c.loop-form.form (rw c.if-is_place_in.true at c.is_place_in.ensures)

pub returns : goal.returns
returns c = no_form_gives c.args.reached.now c.args.place (λ k l. c.loop-form.invariant k (omega (arith, l, c.loop-form-test.false)))
