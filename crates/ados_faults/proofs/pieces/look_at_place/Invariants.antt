use Rattle.ados_faults.proofs.Common.{All, take, IsRuleNoted, AreNoted, AreStillNoted, DATA_RULES}
use Rattle.ados_faults.proofs.pieces.look_at_place.Given as goal

abbrev pub invariant-loop-rule : goal.invariant-loop-rule
invariant-loop-rule l = record {
  noted : AreNoted l.image l.notes.cells.items;
  stays : AreStillNoted l.initial.notes.cells.items l.notes.cells.items;
  rules : All (IsRuleNoted l.image l.notes.cells.items l.place) (take l.rule-index DATA_RULES);
}
