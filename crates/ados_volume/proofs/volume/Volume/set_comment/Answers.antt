use Rattle.ados_volume.proofs.Common.{COMMENT_BYTE, Shown, Stands, length, refl, subst, sym, ◌+◌}
use Rattle.ados_volume.proofs.Staying.{restamped_sound}
use Rattle.ados_volume.proofs.volume.Volume.set_comment.Goals as goal

pub invariant_of-self : goal.invariant_of-self
invariant_of-self c =
    let t = c.self.invariant.tree.0 in
    let s = c.self.invariant.tree.1 in
    let entry = c.requires t (subst (λ (shown : Shown). Stands shown.image t) c.self.view_is s) in
    restamped_sound c.self.invariant c.set_comment.new.image c.args.moment c.args.key COMMENT_BYTE (COMMENT_BYTE + 1 + length c.args.comment) (λ node. record node { comment = c.args.comment }) (λ a. refl) (λ dir a m e. refl)
    entry.0 c.set_comment.ensures.rest c.set_comment.ensures.keeps (c.set_comment.ensures.stands t s)

pub returns-clause-stands : goal.returns-clause-stands
returns-clause-stands c = λ t s. c.set_comment.ensures.stands t (subst (λ (shown : Shown). Stands shown.image t) (sym c.self.view_is) s)
