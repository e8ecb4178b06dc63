use Rattle.std.proofs.Common.{◌≡◌}
use Rattle.ados_port.proofs.client.ClientEnd.take_within.Given as goal

abbrev pub invariant-loop-look : goal.invariant-loop-look
invariant-loop-look g l = l.self ≡ l.fn.self
