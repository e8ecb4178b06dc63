use Rattle.ados_salvage.proofs.LostByOwner.{by_owner}
use Rattle.ados_salvage.proofs.laws.lost_blocks_by_owner.Goals as goal

pub returns : goal.returns
returns c = by_owner
