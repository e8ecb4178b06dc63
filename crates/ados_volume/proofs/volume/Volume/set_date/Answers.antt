use Rattle.ados_volume.proofs.Common.{DATE, Shown, Stands, long_byte, refl, subst, sym, ◌+◌}
use Rattle.ados_volume.proofs.Staying.{restamped_sound}
use Rattle.ados_volume.proofs.volume.Volume.set_date.Goals as goal

pub invariant_of-self : goal.invariant_of-self
invariant_of-self c =
    let t = c.self.invariant.tree.0 in
    let s = c.self.invariant.tree.1 in
    let entry = c.requires t (subst (λ (shown : Shown). Stands shown.image t) c.self.view_is s) in
    restamped_sound c.self.invariant c.set_date.new.image c.args.moment c.args.key (long_byte DATE) (long_byte (DATE + 3)) (λ node. record node { date = c.args.date }) (λ a. refl) (λ dir a m e. refl)
    entry.0 c.set_date.ensures.rest c.set_date.ensures.keeps (c.set_date.ensures.stands t s)

pub returns-clause-stands : goal.returns-clause-stands
returns-clause-stands c = λ t s. c.set_date.ensures.stands t (subst (λ (shown : Shown). Stands shown.image t) (sym c.self.view_is) s)
