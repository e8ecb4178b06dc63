use Rattle.ados_model.proofs.Blank.{blank_stands}
use Rattle.ados_model.proofs.laws.blank_stands.Goals as goal

pub returns : goal.returns
returns c = blank_stands
