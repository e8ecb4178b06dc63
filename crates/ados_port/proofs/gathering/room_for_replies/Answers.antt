use Rattle.std.proofs.Common.{ap, sym, subst, ◌∙◌, ◌+◌, ◌++◌, ◌∷◌, [], ◌≡◌, ℕ, Some, slice_get, length, arith, length-append}
use Rattle.ados_port.proofs.Gathers.{at_place, set_same, fit_more}
use Rattle.ados_port.specs.steps.Rooms.{RoomFits}
use Rattle.ados_port.proofs.gathering.room_for_replies.Goals as goal

pub loop-k-preserved : goal.loop-k-preserved
loop-k-preserved g c =
    let h = c.loop-k.invariant in
    let same = c.untaken-count.ensures.same in
    let ok = c.loop-k.clients.ok in
    let n = c.len-k-end.ensures in
    let first = c.args.clients.now.ok in
    let long = ap (λ l. length l) h.clients in
    let at = at_place c.loop-k.clients.items c.loop-k.k c.index_mut-client.result.now (omega (arith, c.loop-k-test.true)) c.index_mut-client.ensures.value in
    let items = c.push_reserved.ensures.items ∙ ap (λ l. l ++ c.in_ok-room.room ∷ []) c.reserve.ensures.items in
    record {
      handler = same.0 ∙ h.handler;
      clients = set_same c.loop-k.clients.items c.loop-k.k c.index_mut-client.result.now c.untaken-count.new.client c.index_mut-client.ensures.value same.1 ∙ h.clients;
      count = ap (λ l. length l) items ∙ (length-append c.loop-k.rooms.items (c.in_ok-room.room ∷ []) ∙ ap (λ (m : ℕ). m + 1) h.count);
      fit = fit_more RoomFits c.args.clients.now.items c.args.handler.now.outlets c.loop-k.rooms.items c.push_reserved.new.self.items c.index_mut-client.result.now c.in_ok-room.room c.loop-k.k items h.count
          (subst (λ l. slice_get l c.loop-k.k ≡ Some c.index_mut-client.result.now) h.clients at)
          (λ o ato. let e = c.untaken-count.ensures.count o (subst (λ v. slice_get v.outlets c.loop-k.k ≡ Some o) (sym h.handler) ato) in
          let m = e.2 in let cap = c.in_ok-room.ensures.1 in (c.in_ok-room.ensures.0, (e.0, e.1, omega arith)))
          h.fit;
    }
