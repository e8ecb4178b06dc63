use Rattle.ados_volume.proofs.Common.{NAME_BYTE, OnlyRestamped, Shown, Stands, ap, is_some, length, refl, root, root_is, subst, sym, ℕ, ◌+◌}
use Rattle.ados_change.proofs.Retells.{entry_not_root}
use Rattle.ados_volume.proofs.Staying.{restamped_sound}
use Rattle.ados_volume.proofs.volume.Volume.rename_disk.Goals as goal

pub invariant_of-self : goal.invariant_of-self
invariant_of-self c =
    let t = c.self.invariant.tree.0 in
    let s = c.self.invariant.tree.1 in
    let low = NAME_BYTE in
    let high = NAME_BYTE + 1 + length c.args.name in
    restamped_sound c.self.invariant c.rename_disk.new.image c.args.moment (root t) low high (λ node. record node { name = c.args.name }) (λ a. refl) (λ dir a m e. absurd (entry_not_root t s.proper dir (root t) m refl))
    (ap is_some s.proper.root_node.1) (subst (λ (k : ℕ). OnlyRestamped k low high c.self.inside.image c.rename_disk.new.image) (root_is c.self.inside.image t s) c.rename_disk.ensures.rest) c.rename_disk.ensures.keeps (c.rename_disk.ensures.stands t s)

pub returns-clause-stands : goal.returns-clause-stands
returns-clause-stands c = λ t s. c.rename_disk.ensures.stands t (subst (λ (shown : Shown). Stands shown.image t) (sym c.self.view_is) s)
