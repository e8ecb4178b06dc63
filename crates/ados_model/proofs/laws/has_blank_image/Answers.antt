use Rattle.ados_model.proofs.BlankWork.{has_blank_image}
use Rattle.ados_model.proofs.laws.has_blank_image.Goals as goal

pub returns : goal.returns
returns c = has_blank_image
