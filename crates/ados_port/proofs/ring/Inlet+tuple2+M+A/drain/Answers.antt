use Rattle.std.proofs.Common.{arith, ◌∙◌, ap, sym, ◌++◌, ◌+◌, ◌≡◌, length}
use Rattle.rtrb.specs.Ring.{known_items}
use Rattle.ados_port.specs.Lawful.{numbered}
use Rattle.ados_port.specs.Gathering.{answers}
use Rattle.ados_port.proofs.Drains.{drained, same_rest, length-numbered}
use Rattle.ados_port.proofs.ring.Inlet+tuple2+M+A.drain.Goals as goal

pub drain_list-requires-clause-room : goal.drain_list-requires-clause-room
drain_list-requires-clause-room g c =
    let s = c.slots_beside-posted.ensures in
    let known = known_items c.slots_beside-posted.new.self in
    let fifo : c.args.self.taken ++ known ≡ c.args.outlet.now.posted =
    ap (λ l. l ++ known) (sym (s.looked.1 ∙ ap (λ v. v.taken) c.self.view_is)) ∙ (s.fifo ∙ (s.producer.1 ∙ ap (λ v. v.posted) c.outlet.view_is)) in
    let rest = same_rest c.args.self.taken c.requires.room.0 known c.args.outlet.now.posted c.requires.room.1 fifo in
    let room = c.requires.room.2 in
    let waits = ap (λ v. length v.waiting) c.outlet.view_is in
    let items = ap (λ l. length l) (c.drain_ring.ensures.items ∙ ap (λ l. l ++ numbered (c.args.count + 1) (answers known)) c.requires.empty) in
    let len = length-numbered (c.args.count + 1) known in
    let cap = c.drain_ring.ensures.room in
    let ok = c.drain_ring.new.into.ok in
    omega arith

pub returns : goal.returns
returns g c =
    let s = c.slots_beside-posted.ensures in
    let known = known_items c.slots_beside-posted.new.self in
    let fifo : c.args.self.taken ++ known ≡ c.args.outlet.now.posted =
    ap (λ l. l ++ known) (sym (s.looked.1 ∙ ap (λ v. v.taken) c.self.view_is)) ∙ (s.fifo ∙ (s.producer.1 ∙ ap (λ v. v.posted) c.outlet.view_is)) in
    drained c.args.self.taken known c.args.outlet.now.posted c.args.outlet.now.waiting c.args.count c.slots_beside-posted.result _ _ _ fifo s.value c.requires.empty c.drain_ring.ensures.items
    (c.drain_list.ensures.items ∙ ap (λ v. c.drain_ring.new.into.items ++ numbered (c.args.count + c.slots_beside-posted.result + 1) (answers v.waiting)) c.outlet.view_is)
