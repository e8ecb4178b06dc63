use Rattle.std.proofs.Common.{All, take}
use Rattle.ados_census.specs.Fillers.{HoldsFiller}
use Rattle.ados_salvage.proofs.known.whole.hold_no_filler.Given as goal

-- none of the blocks before this one holds a filler
abbrev pub invariant-loop-block : goal.invariant-loop-block
invariant-loop-block l = All (λ block. ¬ HoldsFiller l.image block) (take l.block-index l.blocks)
