use Rattle.std.proofs.Common.{◌≡◌, map, take}
use Rattle.ados_port.specs.steps.Rule.{total}
use Rattle.ados_port.proofs.gathering.room_for_packets.Given as goal

abbrev pub invariant-loop-k : goal.invariant-loop-k
invariant-loop-k g l = l.puts ≡ total (map (λ c. c.put) (take l.k l.clients.items))
