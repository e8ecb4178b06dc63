use Rattle.std.proofs.Common.{ℕ, ◌+◌, [], ◌∷◌, ◌++◌, drop, arith, sym, ap, subst, ◌∙◌, append_assoc, zero-add}
use Rattle.ados_port.specs.History.{PortHistory, events_of, queue}
use Rattle.ados_port.proofs.Closing.{dead-closed, dead-closing}
use Rattle.ados_port.proofs.Histories.{history_nil, served_length}
use Rattle.ados_port.proofs.Grows.{grow}
use Rattle.ados_port.proofs.Joins.{none_left}
use Rattle.std.proofs.lemmas.Option.{none-some}
use Rattle.std.proofs.lemmas.List.Sums.{sum_by-append}
use Rattle.ados_port.specs.Exchanges.{CanCount, HasPlacesFor, put_count, puts_in}
use Rattle.ados_port.proofs.Places.{counts_left, goes_on, none_more, places_left}
use Rattle.ados_port.proofs.steps.run.Goals as goal

pub loop-step-init : goal.loop-step-init
loop-step-init g c = ([], c.from_vec-rest.ensures.items, rw c.in-Ok.ensures.items (history_nil g.S.Server.gives g.S.Server.has_died c.args.exchange.port), omega (arith, c.in-Ok.ensures.len, c.in-Ok.ensures.exact, c.from_vec-rest.ensures.len, c.len.ensures), λ places counts. rw (c.from_vec-rest.ensures.items, c.in-Ok.ensures.items) (places, counts, λ i packet at. absurd (none-some _ at)))

pub loop-step-preserved : goal.loop-step-preserved
loop-step-preserved g c =
    let old = c.loop-step.invariant
    in (
      old.0 ++ c.in-Some.step ∷ [],
      append_assoc old.0 (c.in-Some.step ∷ []) c.pop_front.new.self.items ∙ ap (λ l. old.0 ++ l) (sym c.in-Some.ensures.items) ∙ old.1,
      rw c.push_reserved.ensures.items (grow g.S.Server.gives g.S.Server.has_died c.args.exchange.port old.0 c.loop-step.outcomes.items c.loop-step.exchange.port old.2 c.in-Some.step c.step.result c.step.new.self.port c.step.ensures.gives),
      omega (arith, old.3, c.push_reserved.ensures.len, c.push_reserved.ensures.capacity, c.in-Some.ensures.len),
      λ places counts.
          let was = old.4 places counts in
          let step = c.in-Some.step in
          let more = ap put_count c.in-Some.ensures.items ∙ sum_by-append puts_in (step ∷ []) c.pop_front.new.self.items
          ∙ ap (λ (n : ℕ). n + put_count c.pop_front.new.self.items) (zero-add (puts_in step)) in
          let has = subst (λ (n : ℕ). HasPlacesFor n c.loop-step.exchange) more was.0 in
          let can = subst (λ (n : ℕ). CanCount n c.loop-step.exchange) more was.1 in (
            places_left g.S.Server.gives g.S.Server.has_died c.loop-step.exchange c.step.new.self step c.step.result c.step.ensures.history _ has c.step.ensures.places,
            counts_left g.S.Server.gives g.S.Server.has_died c.loop-step.exchange c.step.new.self step c.step.result c.step.ensures.history _ can,
            rw c.push_reserved.ensures.items (none_more c.loop-step.outcomes.items c.step.result was.2
                (λ packet. goes_on g.S.Server.gives g.S.Server.has_died _ c.loop-step.exchange c.step.new.self step c.step.result packet has can c.step.ensures.gives c.step.ensures.full)),
          ),
    )

pub returns : goal.returns
returns g c =
    let gives = g.S.Server.gives
    in let has_died = g.S.Server.has_died
    in let old = c.loop-step.invariant
    in let all = none_left old.0 c.loop-step.rest.items c.args.steps.items old.1 (omega (arith, c.loop-step.rest.ok.0, c.in_default-pop_front.ensures.cases.0))
    in let whole : PortHistory gives has_died c.args.exchange.port c.args.steps.items c.loop-step.outcomes.items c.loop-step.exchange.port =
    subst (λ l. PortHistory gives has_died c.args.exchange.port l c.loop-step.outcomes.items c.loop-step.exchange.port) all old.2
    in record {
      history = whole;
      ample = λ places counts. (old.4 places counts).2;
      first_served = whole.closing_waiting ∙ ap (λ n. drop n (queue c.args.exchange.port (events_of c.args.steps.items c.loop-step.outcomes.items))) (served_length gives has_died _ _ _ _ whole);
      stays_dead = dead-closing gives has_died g.met.S.Server.stays_dead _ _ _ _ whole;
      stays_closed = dead-closed gives has_died g.met.S.Server.stays_dead _ _ _ _ whole;
    }
