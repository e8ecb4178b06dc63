use Rattle.std.proofs.Common.{ap, sym, subst, ◌∙◌, ◌+◌, ◌++◌, ◌≡◌, Some, slice_get, length, arith}
use Rattle.ados_port.proofs.Closes.{close_means_death}
use Rattle.ados_port.proofs.Gathers.{replies_few, lawful_replies, get_map, is_lawful}
use Rattle.ados_port.specs.Lawful.{MeaningRun, packets_of}
use Rattle.ados_port.specs.History.{packets_by}
use Rattle.ados_port.specs.Ends.{OfClients}
use Rattle.ados_port.specs.steps.HandlerEnds.{AllHeard}
use Rattle.ados_port.proofs.gathering.finish.Goals as goal

pub take_in-queue-requires-clause-ends : goal.take_in-queue-requires-clause-ends
take_in-queue-requires-clause-ends g c =
    λ k x at. let e = c.requires.ends.1 k x at in (e.0 ∙ sym c.into_parts-queue.ensures.queue.0, e.2)

pub take_in-queue-requires-clause-rings : goal.take_in-queue-requires-clause-rings
take_in-queue-requires-clause-rings g c =
    let p = c.into_parts-queue.ensures in
    λ k x o atx ato.
    let here = subst (λ l. slice_get l k ≡ Some o) p.outlets ato in
    let r = ap (λ l. length l) (c.witness.ensures.replies k o here) in
    let few = replies_few (k + 1) c.args.handler.served in
    let bound = p.few in
    ((c.requires.ends.1 k x atx).3 o here, omega arith)

pub take_in-queue-requires-clause-rooms : goal.take_in-queue-requires-clause-rooms
take_in-queue-requires-clause-rooms g c =
    let p = c.into_parts-queue.ensures in
    (c.requires.rooms.0, λ k x o r atx ato atr. c.requires.rooms.1 k x o r atx (subst (λ l. slice_get l k ≡ Some o) p.outlets ato) atr)

pub returns-clause-lawful : goal.returns-clause-lawful
returns-clause-lawful g c =
    let p = c.into_parts-queue.ensures in
    let t = c.take_in-queue.ensures in
    let rest = c.take_rest-unanswered.result.items in
    let e = c.take_rest-unanswered.ensures in
    let all = ap (λ q. q.taken) e.order ∙ ap (λ l. l ++ rest) (ap (λ q. q.taken) t.queue ∙ p.queue.1) in
    let known = ap (λ q. q.known) e.order ∙ ap (λ q. q.known) t.queue in
    is_lawful g.S.Server.gives c.args.handler.opening c.into_parts-queue.result.2 c.args.handler.served rest c.args.clients.items c.take_in-queue.result.1.items
    (subst (λ s. MeaningRun g.S.Server.gives c.args.handler.opening c.args.handler.served s) (sym p.server) c.witness.ensures.run)
    t.clients
    (λ k x at.
    e.puts k x.put (subst (λ l. slice_get l k ≡ Some x.put) (sym known) (get_map (λ y. y.put) c.args.clients.items k x at))
    ∙ ap (λ l. packets_by (k + 1) l) all)
    (lawful_replies c.args.clients.items c.args.handler.outlets c.into_parts-queue.result.1.items c.take_in-queue.result.1.items c.args.handler.served c.requires.ends.0 p.outlets c.witness.ensures.replies t.replies)
    (subst (λ n. OfClients n (packets_of c.args.handler.served ++ rest)) (ap (λ q. q.clients) e.order ∙ (ap (λ q. q.clients) t.queue ∙ (p.queue.3 ∙ sym c.requires.ends.0)))
    (subst (λ l. OfClients c.take_rest-unanswered.new.queue.clients l) all e.clients))

pub returns-clause-closed : goal.returns-clause-closed
returns-clause-closed g c =
    let p = c.into_parts-queue.ensures in
    let t = c.take_in-queue.ensures in
    let server = g.S.Server in
    close_means_death server.gives server.has_died server.is_closing g.met.S.Server.stays_dead g.met.S.Server.closes_dead
    c.args.handler.opening c.into_parts-queue.result.2 c.args.handler.served c.args.clients.items c.take_in-queue.result.1.items
    (subst (λ s. MeaningRun server.gives c.args.handler.opening c.args.handler.served s) (sym p.server) c.witness.ensures.run)
    t.clients
    (subst (λ s. AllHeard server.is_closing (server.has_died s) c.args.clients.items) (sym p.server) c.requires.heard)
    (lawful_replies c.args.clients.items c.args.handler.outlets c.into_parts-queue.result.1.items c.take_in-queue.result.1.items c.args.handler.served c.requires.ends.0 p.outlets c.witness.ensures.replies t.replies)
