use Rattle.adf_import.proofs.Turns.{outside_stays}
use Rattle.adf_import.proofs.in_turn.outside_stays.Goals as goal

pub returns : goal.returns
returns c = outside_stays
