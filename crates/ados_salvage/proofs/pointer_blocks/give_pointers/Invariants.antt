use Rattle.ados_salvage.proofs.Common.{◌≡◌, IsGiving}
use Rattle.ados_salvage.specs.steps.Counting.{TakesMore}
use Rattle.ados_salvage.proofs.pointer_blocks.give_pointers.Given as goal

abbrev pub invariant-loop-i : goal.invariant-loop-i
invariant-loop-i l = record {
  giving : IsGiving l.known.holes.items l.known.image l.giving;
  left : l.giving.left ≡ l.initial.giving.left;
  more : TakesMore l.known.image l.wanted l.fn.earlier l.kept l.initial.giving.pieces.items l.giving.pieces.items;
  none : l.kept.there ≡ 0 → (l.fn.earlier.there ≡ 0) × (l.giving.pieces.items ≡ l.initial.giving.pieces.items);
}
