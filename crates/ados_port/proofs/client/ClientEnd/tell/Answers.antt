use Rattle.std.proofs.Common.{inl, inr, ⊎_elim, sym, ap, ◌∙◌, ◌≡◌, true}
use Rattle.std.specs.List.{list_any}
use Rattle.ados_port.proofs.Closes.{one_or_other}
use Rattle.ados_port.proofs.client.ClientEnd.tell.Goals as goal

pub returns-clause-heard : goal.returns-clause-heard
returns-clause-heard g c = λ believed knows.
    let e = c.self.inside in
    ⊎_elim
    (λ (shut : e.shut ≡ true). inr (sym (ap (λ v. list_any (λ x. g.S.Server.is_closing x.1) v.taken) c.self.view_is) ∙ (sym c.self.invariant.1 ∙ shut)))
    (λ (marked : e.mark.knows ≡ true). inl (c.hear.ensures.died believed marked))
    (one_or_other e.shut e.mark.knows (ap (λ v. v.knows) c.self.view_is ∙ knows))
