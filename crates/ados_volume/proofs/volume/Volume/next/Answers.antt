use Rattle.ados_volume.proofs.Common.{LawfulChains, List, in_slot, subst, sym, ℕ, ◌∙◌}
use Rattle.ados_volume.proofs.Looking.{chains_of, next_is}
use Rattle.ados_volume.proofs.volume.Volume.next.Goals as goal

pub after-requires : goal.after-requires
after-requires c =
    let t = c.image.ensures.stands.0 in
    let s = c.image.ensures.stands.1 in (
      in_slot t c.args.dir,
      subst (λ (image : List ℕ). LawfulChains image c.args.dir (in_slot t c.args.dir)) (sym c.image.ensures.same)
          (chains_of c.args.self.now.image t s c.args.dir (c.requires t s)),
    )

pub returns : goal.returns
returns c = λ t s.
    let lawful = subst (λ (image : List ℕ). LawfulChains image c.args.dir (in_slot t c.args.dir)) (sym c.image.ensures.same)
    (chains_of c.args.self.now.image t s c.args.dir (c.requires t s)) in
    c.after.ensures (in_slot t c.args.dir) lawful ∙ next_is c.args.self.now.image t s c.args.dir c.args.key
