use Rattle.adf_rescue.proofs.Sourcing.{paths_apart}
use Rattle.adf_rescue.proofs.sourced.SourcedItems.forget_names.Goals as goal

pub returns-clause-paths : goal.returns-clause-paths
returns-clause-paths c = paths_apart c.args.self.now c.requires
