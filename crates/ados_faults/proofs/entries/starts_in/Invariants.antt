use Rattle.ados_faults.proofs.Common.{AreSlotsMet}
use Rattle.ados_faults.proofs.entries.starts_in.Given as goal

abbrev pub invariant-loop-i : goal.invariant-loop-i
invariant-loop-i l = AreSlotsMet l.image l.dir l.entries.list.items l.i
