use Rattle.ados_volume.proofs.Common.{List, Stands, ap, protection_in, some_in, subst, sym, ℕ, ◌∙◌}
use Rattle.ados_volume.proofs.volume.Volume.protection.Goals as goal

pub returns : goal.returns
returns c = λ t s.
    let n = some_in (t.nodes c.args.key) (c.requires t s) in
    c.protection_in.ensures t n.0 (subst (λ (image : List ℕ). Stands image t) (sym c.image.ensures.same) s) n.1 ∙ sym (ap protection_in n.1)
