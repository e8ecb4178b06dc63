use Rattle.ados_name.proofs.NameLemmas.{same_name_same_slot}
use Rattle.ados_name.proofs.name.same_name_same_slot.Goals as goal

pub returns : goal.returns
returns c = same_name_same_slot
