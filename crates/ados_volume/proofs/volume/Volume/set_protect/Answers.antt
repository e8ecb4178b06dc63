use Rattle.ados_volume.proofs.Common.{PROTECTION, Shown, Stands, long_byte, refl, subst, sym, ◌+◌}
use Rattle.ados_volume.proofs.Staying.{restamped_sound}
use Rattle.ados_volume.proofs.volume.Volume.set_protect.Goals as goal

pub invariant_of-self : goal.invariant_of-self
invariant_of-self c =
    let t = c.self.invariant.tree.0 in
    let s = c.self.invariant.tree.1 in
    let entry = c.requires t (subst (λ (shown : Shown). Stands shown.image t) c.self.view_is s) in
    restamped_sound c.self.invariant c.set_protection.new.image c.args.moment c.args.key (long_byte PROTECTION) (long_byte (PROTECTION + 1)) (λ node. record node { protection = c.args.bits.0 }) (λ a. refl) (λ dir a m e. refl)
    entry.0 c.set_protection.ensures.rest c.set_protection.ensures.keeps (c.set_protection.ensures.stands t s)

pub returns-clause-stands : goal.returns-clause-stands
returns-clause-stands c = λ t s. c.set_protection.ensures.stands t (subst (λ (shown : Shown). Stands shown.image t) (sym c.self.view_is) s)
