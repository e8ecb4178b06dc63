use Rattle.std.proofs.Common.{◌≡◌, take}
use Rattle.ados_port.specs.Rings.{waiting_count}
use Rattle.ados_port.proofs.outlets.any_waits.Given as goal

abbrev pub invariant-loop-i : goal.invariant-loop-i
invariant-loop-i g l = waiting_count (take l.i l.outlets.items) ≡ 0
