use Rattle.ados_handler.proofs.Freed.{freed_place_serves}
use Rattle.ados_handler.proofs.laws.freed_place_serves.Goals as goal

pub returns : goal.returns
returns c = freed_place_serves
