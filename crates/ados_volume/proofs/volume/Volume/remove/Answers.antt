use Rattle.ados_volume.proofs.Common.{Shown, Stands, subst, sym}
use Rattle.ados_volume.proofs.Bounds.{below_boot}
use Rattle.ados_volume.proofs.Moved.{has_parent, removed_stays}
use Rattle.ados_volume.proofs.Staying.{forgotten_sound}
use Rattle.ados_volume.proofs.volume.Volume.remove.Goals as goal

pub forget-requires-clause-key : goal.forget-requires-clause-key
forget-requires-clause-key c = λ t s.
    let can = c.requires t (subst (λ (shown : Shown). Stands shown.image t) c.self.view_is s) in
    has_parent c.self.inside.image t s c.args.key can.dir can.listed

pub remove-requires-clause-can : goal.remove-requires-clause-can
remove-requires-clause-can c = λ t s. c.requires t (subst (λ (shown : Shown). Stands shown.image t) c.self.view_is s)

pub invariant_of-self : goal.invariant_of-self
invariant_of-self c =
    let t = c.self.invariant.tree.0 in
    let s = c.self.invariant.tree.1 in
    let can = c.requires t (subst (λ (shown : Shown). Stands shown.image t) c.self.view_is s) in
    forgotten_sound c.self.invariant c.remove.new.image _ (c.remove.ensures.stands t s) c.args.key _ c.forget.ensures.names _ c.forget.ensures.whole (removed_stays t c.args.moment c.args.key can.empty)
    _ c.forget.ensures.listed _ c.clear.ensures _ (below_boot c.remove.new.image)

pub returns-clause-stands : goal.returns-clause-stands
returns-clause-stands c = λ t s. c.remove.ensures.stands t (subst (λ (shown : Shown). Stands shown.image t) (sym c.self.view_is) s)
