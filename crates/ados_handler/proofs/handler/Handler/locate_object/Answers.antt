use Rattle.std.proofs.Common.{ℕ, List, rules, sym, ap, ◌∙◌, subst}
use Rattle.ados_handler.proofs.Common.{Stands, LocateObject, HandlerState}
use Rattle.ados_handler.proofs.Leaving.{leaves_all}
use Rattle.ados_handler.proofs.handler.Handler.locate_object.Goals as goal

pub returns-clause-gives : goal.returns-clause-gives
returns-clause-gives c =
    let t = c.self.invariant.tree in
    let stood = subst (λ (h : HandlerState). Stands h.image t) c.self.view_is c.self.invariant.stands in
    let image = c.bring_lock.ensures.image ∙ ap (λ (h : HandlerState). h.image) c.walked.ensures.same in
    λ now. record {
      old_tree = t;
      new_tree = t;
      stood = stood;
      stands = subst (λ (xs : List ℕ). Stands xs t) (sym image) stood;
      means = search rules;
      leaves = leaves_all t c.args.self.now (LocateObject c.args.lock c.args.path.now c.args.mode) _ c.bring_lock.result image;
      validated = c.bring_lock.ensures.validated ∙ ap (λ (h : HandlerState). h.was_validated) c.walked.ensures.same;
    }
