use Rattle.ados_faults.proofs.Common.{All, take, IsFieldNoted, AreNoted, AreStillNoted}
use Rattle.ados_faults.proofs.looks.look_at_fields.Given as goal

abbrev pub invariant-loop-rule : goal.invariant-loop-rule
invariant-loop-rule l = record {
  noted : AreNoted l.image l.notes.cells.items;
  stays : AreStillNoted l.initial.notes.cells.items l.notes.cells.items;
  fields : All (IsFieldNoted l.image l.notes.cells.items l.block l.role) (take l.rule-index l.rules);
}
