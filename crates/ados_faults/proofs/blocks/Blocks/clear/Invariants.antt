use Rattle.ados_faults.proofs.Common.{length}
use Rattle.ados_faults.proofs.Enumerated.{AreLeft}
use Rattle.ados_faults.proofs.blocks.Blocks.clear.Given as goal

abbrev pub invariant-loop-block : goal.invariant-loop-block
invariant-loop-block l = AreLeft l.image l.self.has.items l.self.list.items

abbrev pub decreases-loop-block : goal.decreases-loop-block
decreases-loop-block l = length l.self.list.items
