use Rattle.ados_faults.proofs.Common.{length, pointers_of}
use Rattle.ados_faults.proofs.OfEach.{AreOfFirst}
use Rattle.ados_faults.proofs.header_table.pointer_counts.Given as goal

abbrev pub invariant-loop-header : goal.invariant-loop-header
invariant-loop-header l = AreOfFirst (λ k. length (pointers_of l.image k)) l.header l.counts.items
