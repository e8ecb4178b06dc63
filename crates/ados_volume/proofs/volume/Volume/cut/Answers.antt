use Rattle.ados_volume.proofs.Common.{Shown, Stands, refl, shortened, subst, sym}
use Rattle.ados_volume.proofs.Bounds.{below_boot}
use Rattle.ados_volume.proofs.Known.{known_dropped, others_last}
use Rattle.ados_volume.proofs.Refilled.{rewritten_same}
use Rattle.ados_volume.proofs.Staying.{entries_sound}
use Rattle.ados_volume.proofs.volume.Volume.cut.Goals as goal

pub invariant_of-self : goal.invariant_of-self
invariant_of-self c =
    let t = c.self.invariant.tree.0 in
    let s = c.self.invariant.tree.1 in
    let u = shortened c.args.moment c.args.key c.args.size t in
    let stands = c.cut.ensures.stands t s in
    let file = c.requires.file t (subst (λ (w : Shown). Stands w.image t) c.self.view_is s) in
    entries_sound c.self.invariant c.cut.new.image u stands (rewritten_same t c.args.key file c.args.moment _)
    _ (known_dropped c.self.inside.image c.cut.new.image c.cut.ensures.keeps t u s stands refl _ _ c.args.key c.self.invariant.known c.drop_of.ensures (others_last t c.args.moment c.args.key _))
    _ (below_boot c.cut.new.image)

pub returns-clause-stands : goal.returns-clause-stands
returns-clause-stands c = λ t s. c.cut.ensures.stands t (subst (λ (shown : Shown). Stands shown.image t) (sym c.self.view_is) s)
