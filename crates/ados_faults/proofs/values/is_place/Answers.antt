use Rattle.ados_faults.proofs.Common.{◌≡◌, Some, None, refl, sym, subst, ◌∙◌, SourceView, IsPlace}
use Rattle.ados_faults.proofs.values.is_place.Goals as goal

pub returns-in-Some : goal.returns-in-Some
returns-in-Some c =
    (λ t. (c.in-Some.field-0, subst (λ (s : SourceView). IsPlace s.bytes c.args.block c.args.role c.args.i c.in-Some.field-0) c.whole-source.ensures ((c.place_role.ensures c.in-Some.field-0).0 c.in-Some.is)), λ w. refl)

pub returns-in-None : goal.returns-in-None
returns-in-None c = (
  λ t. absurd (cc t),
  λ w.
      let e : None ≡ Some w.0 = sym c.in-None.is ∙ (c.place_role.ensures w.0).1 (subst (λ (s : SourceView). IsPlace s.bytes c.args.block c.args.role c.args.i w.0) (sym c.whole-source.ensures) w.1) in
      absurd (cc e),
)
