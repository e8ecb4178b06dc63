use Rattle.ados_volume.proofs.Under.{under_is_told}
use Rattle.ados_handler.proofs.laws.under_is_told.Goals as goal

pub returns : goal.returns
returns c = under_is_told
