use Rattle.adf_import.proofs.bundle_put.volume_of_bundle.Goals as goal

pub returns-clause-bundle : goal.returns-clause-bundle
returns-clause-bundle c = c.in_ok-made.ensures.bundle c.if-not-made.false
