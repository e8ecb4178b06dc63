use Rattle.std.proofs.Common.{ap, sym, subst, ◌∙◌, ◌+◌, ℕ, length, length-append, ◌∷◌, [], ◌++◌}
use Rattle.ados_port.proofs.Handling.{fresh_step, added_view, added_end}
use Rattle.ados_port.proofs.Packets.{of_clients_more}
use Rattle.ados_port.specs.Ends.{OfClients, found_in}
use Rattle.ados_port.proofs.handler.HandlerEnd.add_client.Goals as goal

pub invariant_of-self-2 : goal.invariant_of-self-2
invariant_of-self-2 g c =
    let h = c.self.invariant in
    let q = c.in_ok-queue.ensures.ok.1 in
    let items = c.push_reserved.ensures.items ∙ ap (λ l. l ++ c.in_ok-outlet.outlet ∷ []) c.reserve.ensures.items in (
      h.0 ∙ sym (ap (λ v. v.taken) q),
      ap (λ v. v.known) q ∙ h.1,
      ap (λ l. length l) items ∙ (length-append _ _ ∙ (ap (λ (n : ℕ). n + 1) h.2 ∙ sym (ap (λ v. v.clients) q))),
      fresh_step _ _ _ _ (ap (λ v. v.served) c.self.view_is ∙ c.requires.served) items c.in_ok-outlet.ensures.1 c.in_ok-outlet.ensures.2 h.3,
      subst (λ v. OfClients v.clients v.taken) (sym q) (of_clients_more _ _ h.4),
      ap (λ v. found_in v.takes) q ∙ (h.5 ∙ sym (ap (λ v. v.taken) q)),
    )

pub returns-clause-ok : goal.returns-clause-ok
returns-clause-ok g c =
    let q = c.in_ok-queue.ensures.ok in
    let n = c.new.ensures in
    let items = c.push_reserved.ensures.items ∙ ap (λ l. l ++ c.in_ok-outlet.outlet ∷ []) c.reserve.ensures.items in (
      (ap (λ v. v.put) n ∙ ap (λ v. v.put) q.0, ap (λ v. v.taken) n ∙ c.in_ok-outlet.ensures.3, ap (λ v. v.knows) n ∙ c.in_ok-mark.ensures.1),
      (
        c.in_ok-outlet.outlet,
        (
          added_view _ _ _ _ _ _ _ c.self.view_is q.1 items,
          c.in_ok-outlet.ensures.1,
          c.in_ok-outlet.ensures.2,
          added_end _ _ _ _ _ _ _ c.new.result c.self.view_is q.1 items c.self.invariant.2
              (ap (λ v. v.port) n ∙ ap (λ v. v.port) q.0)
              (ap (λ v. v.mark) n ∙ c.in_ok-mark.ensures.0)
              (ap (λ v. v.number) n ∙ ap (λ v. v.number) q.0)
              (ap (λ v. v.ring) n ∙ sym c.in_ok-outlet.ensures.0),
          c.in_ok-outlet.ensures.4,
        ),
      ),
    )
