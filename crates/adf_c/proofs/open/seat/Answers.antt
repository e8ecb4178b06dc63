use Rattle.adf_c.proofs.Coming.{seats}
use Rattle.adf_c.proofs.open.seat.Goals as goal

pub returns : goal.returns
returns c = seats _ _ _ _ _ _ c.put.ensures c.in-Ok.ensures.ok c.new.ensures.image c.new.ensures.validated c.new.ensures.session
