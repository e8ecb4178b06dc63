use Rattle.std.proofs.Common.{ℕ, List, sym, subst}
use Rattle.ados_chain.specs.Chains.{HasChains}
use Rattle.ados_model.specs.Stands.{in_slot}
use Rattle.ados_volume.proofs.Looking.{chains_of}
use Rattle.cases.proofs.calls.has_empty_root.Goals as goal

pub is_empty-requires : goal.is_empty-requires
is_empty-requires c =
    let dir = c.root-dir.result in
    let (tree, stands) = c.into_image.ensures.stands in
    subst (λ (image : List ℕ). HasChains image dir) (sym c.into_image.ensures.same)
    (in_slot tree dir, chains_of c.args.volume.image tree stands dir (c.root-dir.ensures.directory tree stands))
