use Rattle.ados_salvage.proofs.Common.{◌≡◌, ◌≤◌, List, IsGiving}
use Rattle.ados_salvage.specs.declared.giving.Piece.{Piece}
use Rattle.ados_salvage.specs.steps.Counting.{GivesFirst}
use Rattle.ados_salvage.proofs.numbered.give_numbered.Given as goal

abbrev pub invariant-loop-from : goal.invariant-loop-from
invariant-loop-from l = record {
  giving : IsGiving l.known.holes.items l.known.image l.giving;
  left : l.giving.left ≡ l.initial.giving.left;
  few : l.kept.there ≤ l.kept.next;
  order : l.kept.next ≤ l.needed;
  first : (old : List Piece) → GivesFirst l.known.image l.file l.place l.fn.before.next l.fn.before.there old l.initial.giving.pieces.items
      → GivesFirst l.known.image l.file l.place l.kept.next l.kept.there old l.giving.pieces.items;
}
