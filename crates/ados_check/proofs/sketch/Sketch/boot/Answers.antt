use Rattle.ados_check.proofs.Common.{subst, HasBoot}
use Rattle.ados_check.proofs.Reading.{boot_there}
use Rattle.ados_check.proofs.sketch.Sketch.boot.Goals as goal

pub returns : goal.returns
returns c = boot_there c.self.inside.boot c.args.self.now (subst (HasBoot c.self.inside.boot) c.self.view_is c.self.invariant.1) c.requires
