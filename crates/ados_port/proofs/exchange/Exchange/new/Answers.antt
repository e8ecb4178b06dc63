use Rattle.std.proofs.Common.{[], ◌∷◌, ◌++◌, map, slice_get, replicate, arith, sym, ap, ◌∙◌, inl, inr}
use Rattle.std.proofs.lemmas.List.{map-append, replicate-append-replicate}
use Rattle.ados_port.proofs.Histories.{slice_get-push_at}
use Rattle.ados_port.proofs.Views.{client_view}
use Rattle.ados_port.proofs.exchange.Exchange.new.Goals as goal

pub loop-number-preserved : goal.loop-number-preserved
loop-number-preserved g c = record {
  counted = omega (arith, c.push_reserved.ensures.len);
  room = c.push_reserved.ensures.capacity ∙ c.loop-number.invariant.room;
  shown =
      ap (map client_view) c.push_reserved.ensures.items ∙ map-append client_view c.loop-number.list.items (c.new.result ∷ [])
      ∙ ap (λ l. l ++ client_view c.new.result ∷ []) c.loop-number.invariant.shown
      ∙ ap (λ v. replicate c.loop-number._number (record { accepted = 0; taken = 0; untaken = [] }) ++ v ∷ [])
      (λ i. record { accepted = c.new.ensures.accepted i; taken = c.new.ensures.taken i; untaken = c.new.ensures.replies i })
      ∙ replicate-append-replicate c.loop-number._number 1 _;
  none_waits = λ i k at_i. elim (slice_get-push_at c.loop-number.list.items c.new.result i k (ap (λ l. slice_get l i) (sym c.push_reserved.ensures.items) ∙ at_i)) [
    | inl e ↦ c.loop-number.invariant.none_waits i k e.1
    | inr e ↦ ap (λ w. w.waiting) e.1 ∙ c.new.ensures.waiting
  ];
}
