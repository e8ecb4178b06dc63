use Rattle.ados_volume.proofs.Common.{Shown, Stands, subst, sym}
use Rattle.ados_volume.proofs.Bounds.{below_kept}
use Rattle.ados_volume.proofs.Moved.{has_parent, renamed_stays}
use Rattle.ados_volume.proofs.Staying.{forgotten_sound}
use Rattle.ados_volume.proofs.volume.Volume.rename.Goals as goal

pub forget-requires-clause-key : goal.forget-requires-clause-key
forget-requires-clause-key c = λ t s.
    let can = c.requires t (subst (λ (shown : Shown). Stands shown.image t) c.self.view_is s) in
    has_parent c.self.inside.image t s c.args.key can.from can.listed

pub rename-requires-clause-can : goal.rename-requires-clause-can
rename-requires-clause-can c = λ t s. c.requires t (subst (λ (shown : Shown). Stands shown.image t) c.self.view_is s)

pub invariant_of-self : goal.invariant_of-self
invariant_of-self c =
    let t = c.self.invariant.tree.0 in
    let s = c.self.invariant.tree.1 in
    forgotten_sound c.self.invariant c.rename.new.image _ (c.rename.ensures.stands t s) c.args.key _ c.forget.ensures.names _ c.forget.ensures.whole (renamed_stays t c.args.moment c.args.key c.args.dir c.args.name)
    _ c.forget.ensures.listed _ c.clear.ensures
    _ (below_kept c.self.inside.image c.rename.new.image c.self.inside.free_from c.rename.ensures.keeps.kept.size c.rename.ensures.gives_none c.self.invariant.bound)

pub returns-clause-stands : goal.returns-clause-stands
returns-clause-stands c = λ t s. c.rename.ensures.stands t (subst (λ (shown : Shown). Stands shown.image t) (sym c.self.view_is) s)
