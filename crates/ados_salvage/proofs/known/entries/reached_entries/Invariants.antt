use Rattle.ados_model.specs.Faults.{IsEntry}
use Rattle.ados_salvage.proofs.InOrder.{ListsBelow}
use Rattle.ados_salvage.proofs.known.entries.reached_entries.Given as goal

abbrev pub invariant-loop-block : goal.invariant-loop-block
invariant-loop-block l = ListsBelow (IsEntry l.image) l.block l.entries.items
