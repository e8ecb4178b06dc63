use Rattle.ados_salvage.proofs.Common.{ℕ, ◌<◌, AreAllHeaders, AreFollowed, AreGatheredBy}
use Rattle.ados_salvage.proofs.lost.add_lost.Given as goal

abbrev pub invariant-loop-block : goal.invariant-loop-block
invariant-loop-block l = record {
  gathered : AreGatheredBy l.known l.gathered;
  headers : AreAllHeaders l.known l.gathered.places.items;
  followed : (block : ℕ) → block < l.block → AreFollowed l.known l.gathered.places.items block;
}
