use Rattle.ados_salvage.specs.Deleted.{IsDeleted}
use Rattle.ados_salvage.proofs.InOrder.{ListsBelow}
use Rattle.ados_salvage.proofs.known.left_out.deleted_headers.Given as goal

abbrev pub invariant-loop-block : goal.invariant-loop-block
invariant-loop-block l = ListsBelow (IsDeleted l.image) l.block l.headers.items
