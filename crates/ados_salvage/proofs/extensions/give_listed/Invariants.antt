use Rattle.ados_salvage.proofs.Common.{◌≡◌, IfSome, MatchOption, IsGiving}
use Rattle.std.specs.Prelude.{⊤}
use Rattle.ados_salvage.specs.Loose.{IsLooseExtension}
use Rattle.ados_salvage.specs.steps.Counting.{TakesMore}
use Rattle.ados_salvage.proofs.extensions.give_listed.Given as goal

abbrev pub invariant-loop-part : goal.invariant-loop-part
invariant-loop-part l = record {
  giving : IsGiving l.known.holes.items l.known.image l.giving;
  left : l.giving.left ≡ l.initial.giving.left;
  more : TakesMore l.known.image l.wanted (record { next = 0; there = 0; last = 0; from = 0 }) l.kept l.initial.giving.pieces.items l.giving.pieces.items;
  none : l.kept.there ≡ 0 → l.giving.pieces.items ≡ l.initial.giving.pieces.items;
  unlisted : MatchOption l.last (l.giving.pieces.items ≡ l.initial.giving.pieces.items) (λ some. ⊤);
  named : IfSome l.last (λ part. IsLooseExtension l.known.image l.header part.block);
}
