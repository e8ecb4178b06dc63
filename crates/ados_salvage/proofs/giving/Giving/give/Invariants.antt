use Rattle.ados_salvage.proofs.Common.{◌≡◌, ◌<◌, ◌≤◌, IfSome, block_count, IsGiving}
use Rattle.ados_salvage.specs.Due.{IsPointerBlock}
use Rattle.ados_salvage.specs.steps.Counting.{GivesFirst}
use Rattle.ados_salvage.proofs.giving.Giving.give.Given as goal

abbrev pub invariant-loop-i : goal.invariant-loop-i
invariant-loop-i l = record {
  giving : IsGiving l.known.holes.items l.known.image l.self;
  left : l.self.left ≡ l.initial.self.left;
  next : l.kept.next ≡ l.i;
  few : l.kept.there ≤ l.i;
  first : GivesFirst l.known.image l.file l.place l.kept.next l.kept.there l.initial.self.pieces.items l.self.pieces.items;
  holder : IfSome l.way.holder (λ block. block < block_count l.known.image);
  holds : IfSome l.way.holder (IsPointerBlock l.known.image l.file);
  before : IfSome l.way.before (λ block. block < block_count l.known.image);
}
