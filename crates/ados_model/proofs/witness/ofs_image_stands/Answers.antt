use Rattle.ados_model.proofs.Common.{refl, Ofs, steps, steps_along}
use Rattle.ados_model.proofs.SmallImages.{stands}
use Rattle.ados_model.proofs.witness.ofs_image_stands.Goals as goal

pub returns-clause-stands : goal.returns-clause-stands
returns-clause-stands c = stands Ofs

pub returns-clause-hello : goal.returns-clause-hello
unfolding steps steps_along
returns-clause-hello c = (refl, refl)
