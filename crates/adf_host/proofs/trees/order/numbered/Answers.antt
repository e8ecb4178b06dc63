use Rattle.adf_host.proofs.Ordering.{numbered_more}
use Rattle.adf_host.proofs.trees.order.numbered.Goals as goal

pub loop-place-preserved : goal.loop-place-preserved
loop-place-preserved c = numbered_more c.loop-place.pairs.items _ _ c.loop-place.place c.in_ok-push.ensures.items c.loop-place.invariant
