use Rattle.ados_salvage.proofs.KnownCommon.{[], ◌∷◌, take, GrowsBy}
use Rattle.ados_salvage.proofs.ListsGrow.{AnyPointsTo}
use Rattle.ados_salvage.proofs.known.named.named_by.Given as goal

abbrev pub invariant-loop-holder : goal.invariant-loop-holder
invariant-loop-holder l = GrowsBy l.image (AnyPointsTo l.image (take l.holder-index l.holder-items)) (l.header ∷ []) l.blocks.items
