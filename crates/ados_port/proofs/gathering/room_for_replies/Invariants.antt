use Rattle.std.proofs.Common.{◌≡◌, ℕ, length, Some, slice_get}
use Rattle.ados_port.specs.steps.Rooms.{RoomFits}
use Rattle.ados_port.proofs.gathering.room_for_replies.Given as goal

abbrev pub invariant-loop-k : goal.invariant-loop-k
invariant-loop-k g l = record {
  handler : l.handler ≡ l.fn.handler;
  clients : l.clients.items ≡ l.fn.clients.items;
  count : length l.rooms.items ≡ l.k;
  fit : (j : ℕ) (c : _) (o : _) (r : _) → slice_get l.fn.clients.items j ≡ Some c → slice_get l.fn.handler.outlets j ≡ Some o → slice_get l.rooms.items j ≡ Some r → RoomFits c o r;
}
