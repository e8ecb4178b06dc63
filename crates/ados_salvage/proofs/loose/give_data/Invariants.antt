use Rattle.ados_salvage.proofs.Common.{◌≡◌, IfSome, MatchOption, IsGiving}
use Rattle.std.specs.Prelude.{⊤}
use Rattle.ados_salvage.specs.Loose.{IsLooseData}
use Rattle.ados_salvage.specs.steps.Counting.{GivesMore}
use Rattle.ados_salvage.proofs.loose.give_data.Given as goal

abbrev pub invariant-loop-part : goal.invariant-loop-part
invariant-loop-part l = record {
  giving : IsGiving l.known.holes.items l.known.image l.giving;
  left : l.giving.left ≡ l.initial.giving.left;
  more : GivesMore l.known.image l.header l.place l.initial.giving.pieces.items l.giving.pieces.items;
  none : MatchOption l.last (l.giving.pieces.items ≡ l.initial.giving.pieces.items) (λ some. ⊤);
  named : IfSome l.last (λ part. IsLooseData l.known.image l.header part.block);
}
