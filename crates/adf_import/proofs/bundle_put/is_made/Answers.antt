use Rattle.adf_import.proofs.Bundled.{bundle_same}
use Rattle.adf_import.proofs.bundle_put.is_made.Goals as goal

pub returns-clause-bundle : goal.returns-clause-bundle
returns-clause-bundle c = λ made t s.
    bundle_same c.args.volume.now.image t c.in_ok-found.found c.args.bundle.now (c.same_bundle.ensures.0 c.if-not-same_bundle.false) (c.in_ok-found.ensures t s)
