use Rattle.ados_handler.proofs.ImageKept.{meaning_keeps_proper}
use Rattle.ados_handler.proofs.laws.meaning_keeps_proper.Goals as goal

pub returns : goal.returns
returns c = meaning_keeps_proper
