use Rattle.ados_name.proofs.Common.{ap, steps, steps_along}
use Rattle.ados_name.proofs.path.PathSteps.of.Goals as goal

pub returns : goal.returns
unfolding steps
returns c = ap steps_along c.without_volume.ensures
