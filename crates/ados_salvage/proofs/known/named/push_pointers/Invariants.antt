use Rattle.ados_salvage.proofs.KnownCommon.{GrowsBy}
use Rattle.ados_salvage.proofs.ListsGrow.{IsPointedBelow}
use Rattle.ados_salvage.proofs.known.named.push_pointers.Given as goal

abbrev pub invariant-loop-i : goal.invariant-loop-i
invariant-loop-i l = GrowsBy l.image (IsPointedBelow l.image l.holder l.i) l.initial.blocks.items l.blocks.items
