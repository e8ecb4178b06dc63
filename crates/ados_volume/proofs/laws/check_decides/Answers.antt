use Rattle.ados_volume.proofs.Decided.{check_decides}
use Rattle.ados_volume.proofs.laws.check_decides.Goals as goal

pub returns : goal.returns
returns c = check_decides
