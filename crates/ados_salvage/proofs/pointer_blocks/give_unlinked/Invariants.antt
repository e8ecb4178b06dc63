use Rattle.ados_salvage.proofs.Common.{◌≡◌, IsGiving}
use Rattle.ados_salvage.specs.steps.Counting.{TakesMore}
use Rattle.ados_salvage.proofs.pointer_blocks.give_unlinked.Given as goal

abbrev pub invariant-loop-part : goal.invariant-loop-part
invariant-loop-part l = record {
  giving : IsGiving l.known.holes.items l.known.image l.giving;
  left : l.giving.left ≡ l.initial.giving.left;
  more : TakesMore l.known.image l.wanted l.fn.earlier l.kept l.fn.giving.pieces.items l.giving.pieces.items;
}
