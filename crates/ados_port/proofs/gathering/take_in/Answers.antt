use Rattle.std.proofs.Common.{ap, sym, subst, ◌∙◌, ◌+◌, ◌++◌, ◌∷◌, [], ◌≡◌, ◌≤◌, ℕ, Some, slice_get, length, arith, append_assoc, length-append}
use Rattle.std.proofs.lemmas.List.{length-map}
use Rattle.std.proofs.lemmas.Option.{slice_get_within}
use Rattle.ados_port.proofs.Gathers.{place, from_but, done_more, nothing_left, queue_more}
use Rattle.ados_port.specs.steps.Rooms.{Left}
use Rattle.ados_port.specs.Rings.{all_of}
use Rattle.ados_port.proofs.gathering.take_in.Goals as goal

pub take_in_one-requires-clause-port : goal.take_in_one-requires-clause-port
take_in_one-requires-clause-port g c =
    let h = c.loop-client.invariant in
    let e = c.requires.ends _ _ (place _ _ _ _ _ h.all c.in-Some.ensures.steps.0) in (
      e.0 ∙ sym (ap (λ q. q.port) h.queue),
      e.1 ∙ ap (λ (n : ℕ). n + 1) (sym (ap (λ q. length q.known) h.queue ∙ length-map c.loop-client.yielded (λ x. x.put))),
    )

pub take_in_one-requires-clause-room : goal.take_in_one-requires-clause-room
take_in_one-requires-clause-room g c =
    let h = c.loop-client.invariant in
    λ o r ato atr.
    let at = subst (λ (j : ℕ). slice_get c.args.clients.items j ≡ Some c.in-Some.client) (sym h.k) (place _ _ _ _ _ h.all c.in-Some.ensures.steps.0) in
    let here : c.loop-client.k ≤ c.loop-client.k = omega arith in
    let o' = sym (h.outlets.1 _ here) ∙ ato in
    let r' = sym (h.untaken.1 _ here) ∙ atr in
    (c.requires.rooms.1 _ _ _ _ at o' r', c.requires.rings _ _ _ at o')

pub loop-client-preserved : goal.loop-client-preserved
loop-client-preserved g c =
    let h = c.loop-client.invariant in
    let e = c.take_in_one.ensures in
    let first = c.in-Some.ensures.steps.0 in
    let at = subst (λ (j : ℕ). slice_get c.args.clients.items j ≡ Some c.in-Some.client) (sym h.k) (place _ _ _ _ _ h.all first) in
    record {
      all = append_assoc c.loop-client.yielded (c.in-Some.client ∷ []) c.next.new.self.rest.items ∙ (ap (λ l. c.loop-client.yielded ++ l) (sym first) ∙ h.all);
      k = ap (λ (n : ℕ). n + 1) h.k ∙ sym (length-append c.loop-client.yielded (c.in-Some.client ∷ []));
      queue = queue_more c.args.queue c.loop-client.queue c.take_in_one.new.queue c.loop-client.yielded c.in-Some.client h.queue e.queue;
      outlets = from_but _ _ _ _ h.outlets e.outlets;
      untaken = from_but _ _ _ _ h.untaken e.untaken;
      done = done_more (λ x o r. Left x (all_of o) r.items) _ c.args.clients.items c.args.outlets.items c.loop-client.outlets.items c.loop-client.untaken.items c.take_in_one.new.untaken.items c.in-Some.client at h.outlets e.untaken h.done e.replies;
    }

pub returns-clause-replies : goal.returns-clause-replies
returns-clause-replies g c =
    let h = c.loop-client.invariant in
    λ k x o atc ato.
    let within = slice_get_within c.args.clients.items k x atc in
    let n = c.in-None.ensures.steps.0 in
    let ok = c.loop-client.client-iterator.rest.ok in
    let long = nothing_left c.loop-client.yielded c.loop-client.client-iterator.rest.items c.args.clients.items h.all (omega arith) in
    let count = h.k in
    h.done k x o (omega arith) atc ato
