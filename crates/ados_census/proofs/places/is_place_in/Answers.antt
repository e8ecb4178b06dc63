use Rattle.std.proofs.Common.{ℕ, List, MatchBool, subst, arith}
use Rattle.ados_census.specs.Places.{Gives}
use Rattle.ados_census.proofs.Placing.{given_in, not_given}
use Rattle.ados_census.proofs.places.is_place_in.Goals as goal

pub returns-then-not-has_in_form : goal.returns-then-not-has_in_form
returns-then-not-has_in_form c = not_given c.args.reached.now c.args.place c.args.form (grind arith)

pub returns : goal.returns
returns c =
    given_in c.args.reached.now c.args.place c.args.form (grind arith) c.role_of.result c.role_of.ensures c.gives.result
    (subst (λ (image : List ℕ). MatchBool c.gives.result (Gives image c.args.place c.role_of.result) (¬ Gives image c.args.place c.role_of.result)) c.image.ensures c.gives.ensures)
