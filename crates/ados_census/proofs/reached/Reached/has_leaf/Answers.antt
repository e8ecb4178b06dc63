use Rattle.std.proofs.Common.{ℕ, MatchBool, subst}
use Rattle.ados_census.specs.steps.Reaching.{IsReachedIn}
use Rattle.ados_census.proofs.Entries.{leaf_decided}
use Rattle.ados_census.proofs.reached.Reached.has_leaf.Goals as goal

pub returns : goal.returns
returns c =
    leaf_decided c.args.self.now c.args.block c.has_in_form.result
    (subst (λ (form : ℕ). MatchBool c.has_in_form.result (IsReachedIn c.args.self.now c.args.block form) (¬ IsReachedIn c.args.self.now c.args.block form)) c.form_of.ensures.number c.has_in_form.ensures)
