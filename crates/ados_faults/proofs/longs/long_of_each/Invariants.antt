use Rattle.ados_faults.proofs.Common.{long}
use Rattle.ados_faults.proofs.OfEach.{AreOfFirst}
use Rattle.ados_faults.proofs.longs.long_of_each.Given as goal

abbrev pub invariant-loop-block : goal.invariant-loop-block
invariant-loop-block l = AreOfFirst (λ k. long l.image k l.i) l.block l.longs.items
