use Rattle.ados_faults.proofs.Common.{All, AreMet, AreTypesMet, IsOfType}
use Rattle.ados_faults.proofs.typed.blocks_of_type.Given as goal

abbrev pub invariant-loop-step : goal.invariant-loop-step
invariant-loop-step l = record {
  met : AreMet l.image l.blocks.has.items l.blocks.list.items;
  typed : All (IsOfType l.image l.kind) l.blocks.list.items;
  steps : AreTypesMet l.image l.kind l.steps l.blocks.list.items l.step-index;
}
