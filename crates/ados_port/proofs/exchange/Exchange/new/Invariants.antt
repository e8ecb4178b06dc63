use Rattle.std.proofs.Common.{◌≡◌, [], Some, slice_get, ℕ, vec_len, vec_capacity}
use Rattle.std.specs.Prelude.{replicate}
use Rattle.ados_port.specs.View.{clients_view}
use Rattle.ados_port.specs.declared.counts.Client.{Client}
use Rattle.ados_port.proofs.exchange.Exchange.new.Given as goal

abbrev pub invariant-loop-number : goal.invariant-loop-number
invariant-loop-number g l = record {
  counted : vec_len l.list ≡ l._number;
  room : vec_capacity l.list ≡ l.clients;
  shown : clients_view l.list.items ≡ replicate l._number (record { accepted = 0; taken = 0; untaken = [] });
  none_waits : (i : ℕ) (c : Client _) → slice_get l.list.items i ≡ Some c → c.waiting ≡ 0;
}
