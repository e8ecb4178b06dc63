use Rattle.std.proofs.Common.{ap, sym, subst, ◌∙◌, ◌+◌, ◌++◌, ◌<◌, ◌≡◌, List, length, Some, slice_get, arith}
use Rattle.ados_port.proofs.Gathers.{at_place, one_of, untaken_few}
use Rattle.ados_port.proofs.handler.HandlerEnd.untaken.Goals as goal

pub overflow_add-result : goal.overflow_add-result
overflow_add-result g c =
    let o = c.index_mut-outlet.result.now in
    let place : c.args.k < length c.self.inside.outlets.items = subst (λ v. c.args.k < length v.outlets) (sym c.self.view_is) c.requires.place in
    let sent = c.self.invariant.3 c.args.k o (at_place c.self.inside.outlets.items c.args.k o place c.index_mut-outlet.ensures.value) in
    let fifo = c.count_beside-posted.ensures.fifo in
    let few = untaken_few _ o c.self.inside.desk.served c.args.client.now.taken fifo.0 sent fifo.1 in
    let waits = c.waiting.ensures ∙ ap (λ v. length v.waiting) c.count_beside-posted.ensures.same.1 in
    omega (arith, few, fifo.2, waits, c.count-served.ensures)

pub returns-clause-count : goal.returns-clause-count
returns-clause-count g c =
    let o' = c.index_mut-outlet.result.now in
    let place : c.args.k < length c.self.inside.outlets.items = subst (λ v. c.args.k < length v.outlets) (sym c.self.view_is) c.requires.place in
    let at = at_place c.self.inside.outlets.items c.args.k o' place c.index_mut-outlet.ensures.value in
    let fifo = c.count_beside-posted.ensures.fifo in
    let waits = c.waiting.ensures ∙ ap (λ v. length v.waiting) c.count_beside-posted.ensures.same.1 in
    λ o ato.
    let same = one_of c.args.self.now.outlets c.args.k o' o (subst (λ v. slice_get v.outlets c.args.k ≡ Some o') c.self.view_is at) ato in
    subst (λ x. (rest : List _) × (x.posted ≡ c.args.client.now.taken ++ rest) × (length rest + length x.waiting ≡ c.count_beside-posted.result + c.waiting.result)) same (fifo.0, fifo.1, omega (arith, fifo.2, waits))
