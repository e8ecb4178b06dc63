use Rattle.ados_volume.proofs.Common.{IsWhole, Shown, Stands, refl, subst, sym, ℕ}
use Rattle.ados_volume.proofs.Cached.{whole_none}
use Rattle.ados_volume.proofs.Staying.{with_names}
use Rattle.ados_volume.proofs.volume.Volume.child.Goals as goal

pub invariant_of-self : goal.invariant_of-self
invariant_of-self c = with_names c.self.invariant _ _ c.hold.ensures.children c.hold.ensures.whole

pub returns-then-is_whole-clause-child : goal.returns-then-is_whole-clause-child
returns-then-is_whole-clause-child c = λ t s.
    let image = c.self.inside.image in
    let pairs = c.self.inside.names.pairs in
    let whole = c.self.invariant.slots c.args.dir c.slot-slot.result c.slot-slot.ensures.small (c.if-is_whole.ensures refl) in
    sym (whole_none c.same_name_same_slot.ensures image pairs c.args.dir c.args.name.now (subst (λ (i : ℕ). IsWhole image pairs c.args.dir i) c.slot-slot.ensures.value whole)
    c.in_default.ensures.none t (subst (λ (w : Shown). Stands w.image t) (sym c.self.view_is) s))
