use Rattle.std.proofs.Common.{◌≡◌, length}
use Rattle.ados_port.specs.Ends.{IsNew, AreEnds, AreFresh}
use Rattle.ados_port.specs.Rings.{AreEmpty, HavePlaces}
use Rattle.ados_port.proofs.open.open_port.Given as goal

abbrev pub invariant-loop : goal.invariant-loop
invariant-loop g l = record {
  new : IsNew l.fn.server l.handler;
  empty : AreEmpty l.handler.outlets;
  ends : AreEnds l.handler l.ends.items;
  fresh : AreFresh l.ends.items;
  count : length l.ends.items ≡ l.counter;
  places : HavePlaces l.ring l.handler.outlets;
}
