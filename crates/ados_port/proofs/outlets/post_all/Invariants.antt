use Rattle.std.proofs.Common.{◌≡◌, ◌≤◌, take}
use Rattle.ados_port.specs.Rings.{Each, Offers, waiting_count}
use Rattle.ados_port.proofs.Eachs.{DoneBelow}
use Rattle.ados_port.proofs.outlets.post_all.Given as goal

abbrev pub invariant-loop-i : goal.invariant-loop-i
invariant-loop-i g l = record {
  offers : Each (DoneBelow (λ o q. Offers o q) l.i) l.initial.outlets.items l.outlets.items;
  count : l.waiting ≡ waiting_count (take l.i l.outlets.items);
  fewer : waiting_count l.outlets.items ≤ waiting_count l.initial.outlets.items;
}
