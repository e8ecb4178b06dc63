use Rattle.ados_faults.proofs.Common.{All, AreMet, AreSlotsMet, IsEntryIn}
use Rattle.ados_faults.proofs.entries.meet_slots.Given as goal

abbrev pub invariant-loop-i : goal.invariant-loop-i
invariant-loop-i l = record {
  met : AreMet l.image l.entries.has.items l.entries.list.items;
  entries : All (IsEntryIn l.image l.dir) l.entries.list.items;
  slots : AreSlotsMet l.image l.dir l.entries.list.items l.i;
}
