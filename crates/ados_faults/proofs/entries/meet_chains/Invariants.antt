use Rattle.ados_faults.proofs.Common.{◌-◌, ◌^◌, All, AreMet, AreNextMet, AreSlotsMet, IsEntryIn}
use Rattle.ados_faults.proofs.entries.meet_chains.Given as goal

abbrev pub invariant-loop-i : goal.invariant-loop-i
invariant-loop-i l = record {
  met : AreMet l.image l.entries.has.items l.entries.list.items;
  entries : All (IsEntryIn l.image l.dir) l.entries.list.items;
  slots : AreSlotsMet l.image l.dir l.entries.list.items 72;
  next : AreNextMet l.image l.entries.list.items l.i;
}

abbrev pub decreases-loop-i : goal.decreases-loop-i
decreases-loop-i l = 2 ^ 64 - l.i
