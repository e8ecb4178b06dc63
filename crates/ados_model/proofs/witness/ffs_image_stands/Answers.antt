use Rattle.ados_model.proofs.Common.{refl, Ffs, steps, steps_along}
use Rattle.ados_model.proofs.SmallImages.{stands}
use Rattle.ados_model.proofs.witness.ffs_image_stands.Goals as goal

pub returns-clause-stands : goal.returns-clause-stands
returns-clause-stands c = stands Ffs

pub returns-clause-hello : goal.returns-clause-hello
unfolding steps steps_along
returns-clause-hello c = (refl, refl)
