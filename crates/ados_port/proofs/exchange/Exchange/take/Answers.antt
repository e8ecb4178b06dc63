use Rattle.std.proofs.Common.{◌-◌, length, arith, refl}
use Rattle.std.proofs.lemmas.Option.{slice_get_read}
use Rattle.ados_port.proofs.Kept.{kept_same}
use Rattle.ados_port.proofs.Views.{take_first, take_nothing}
use Rattle.ados_port.proofs.Places.{places_set}
use Rattle.ados_port.proofs.exchange.Exchange.take.Goals.{in-None, in-Some}
use Rattle.ados_port.proofs.exchange.Exchange.take.Goals as goal

pub invariant_of-self : goal.invariant_of-self
invariant_of-self g c =
    let found = slice_get_read c.self.inside.clients.items (length c.self.inside.clients.items) (c.args.client - 1) c.index_mut-place.result.now refl (omega (arith, c.if-client-eq0.false, c.if-len-client.false, c.len.ensures)) c.index_mut-place.ensures.value
    in kept_same c.self.inside.clients.items c.self.inside.waiting.items c.self.invariant (c.args.client - 1) c.index_mut-place.result.now c.take.new.self found c.take.ensures.waiting

pub returns-clause-gives : goal.returns-clause-gives
returns-clause-gives g c =
    let found = slice_get_read c.self.inside.clients.items (length c.self.inside.clients.items) (c.args.client - 1) c.index_mut-place.result.now refl (omega (arith, c.if-client-eq0.false, c.if-len-client.false, c.len.ensures)) c.index_mut-place.ensures.value
    in elim c.match-take.branch [
      | in-None w ↦ rw (← c.self.view_is, w.result-is) (take_nothing c.self.inside.server c.self.inside.clients.items c.self.inside.waiting.items c.args.client c.index_mut-place.result.now c.take.new.self
          c.if-client-eq0.false found w.in-None.ensures.cases.0 w.in-None.ensures.cases.1 w.in-None.ensures.accepted w.in-None.ensures.cases.2)
      | in-Some w ↦ rw (← c.self.view_is, w.result-is) (take_first c.self.inside.server c.self.inside.clients.items c.self.inside.waiting.items c.args.client c.index_mut-place.result.now c.take.new.self
          w.in-Some.reply.answer w.in-Some.reply.number c.if-client-eq0.false found w.in-Some.ensures.cases.0 w.in-Some.ensures.cases.2 w.in-Some.ensures.accepted w.in-Some.ensures.cases.1)
    ]

pub returns-clause-places : goal.returns-clause-places
returns-clause-places g c =
    let found = slice_get_read c.self.inside.clients.items (length c.self.inside.clients.items) (c.args.client - 1) c.index_mut-place.result.now refl (omega (arith, c.if-client-eq0.false, c.if-len-client.false, c.len.ensures)) c.index_mut-place.ensures.value
    in let lists = places_set c.self.inside.clients.items (c.args.client - 1) c.index_mut-place.result.now c.take.new.self found (omega (arith, c.take.ensures.places))
    in rw (← c.self.view_is) (omega arith, lists.0, lists.1)
