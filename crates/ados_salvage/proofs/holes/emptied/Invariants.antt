use Rattle.adf_block.specs.Frame.{SameBut}
use Rattle.ados_salvage.proofs.Common.{IsHole}
use Rattle.ados_salvage.proofs.Emptying.{AreEmptyBelow}
use Rattle.ados_salvage.proofs.holes.emptied.Given as goal

-- the holes before this block are empty
abbrev pub invariant-loop-block : goal.invariant-loop-block
invariant-loop-block l = record {
  rest : SameBut (λ block at. IsHole l.holes block) l.fn.image l.image;
  empty : AreEmptyBelow l.holes l.image l.block;
}
