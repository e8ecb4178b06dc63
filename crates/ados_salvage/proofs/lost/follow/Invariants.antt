use Rattle.ados_salvage.proofs.Common.{ℕ, ◌<◌, AreAllHeaders, GathersMore, IsFollowed}
use Rattle.ados_salvage.proofs.lost.follow.Given as goal

abbrev pub invariant-loop-at : goal.invariant-loop-at
invariant-loop-at l = record {
  more : GathersMore l.known l.initial.gathered l.gathered;
  headers : AreAllHeaders l.known l.gathered.places.items;
  followed : (at : ℕ) → at < l.at → IsFollowed l.known l.gathered.places.items l.block at;
}
