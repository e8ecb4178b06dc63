use Rattle.std.proofs.Common.{◌≡◌, ◌<◌, ℕ, Some, slice_get}
use Rattle.ados_port.specs.steps.HandlerEnds.{Heard}
use Rattle.ados_port.proofs.gathering.hear_all.Given as goal

abbrev pub invariant-loop-k : goal.invariant-loop-k
invariant-loop-k g l = record {
  clients : l.clients.items ≡ l.fn.clients.items;
  heard : (j : ℕ) (c : _) → j < l.k → slice_get l.fn.clients.items j ≡ Some c → Heard g.S.Server.is_closing (g.S.Server.has_died l.handler.server) c;
}
