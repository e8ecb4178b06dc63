use Rattle.std.proofs.Common.{ap, subst, ◌∙◌, ◌≡◌, length, Some, slice_get, arith}
use Rattle.ados_port.proofs.Closes.{each_to}
use Rattle.ados_port.proofs.Gathers.{at_place, set_same}
use Rattle.ados_port.specs.steps.HandlerEnds.{Heard}
use Rattle.ados_port.proofs.gathering.hear_all.Goals as goal

pub returns-then-not-hear-clause-same : goal.returns-then-not-hear-clause-same
returns-then-not-hear-clause-same g c =
    set_same c.loop-k.clients.items c.loop-k.k c.index_mut-client.result.now c.hear.new.client c.index_mut-client.ensures.value c.hear.ensures.same
    ∙ c.loop-k.invariant.clients

pub loop-k-preserved : goal.loop-k-preserved
loop-k-preserved g c =
    let h = c.loop-k.invariant in
    let e = c.hear.ensures in
    let ok = c.loop-k.clients.ok in
    let n = c.len-k-end.ensures in
    let long = ap (λ l. length l) h.clients in
    let x = c.index_mut-client.result.now in
    let at = at_place c.loop-k.clients.items c.loop-k.k x (omega (arith, c.loop-k-test.true)) c.index_mut-client.ensures.value in
    record {
      clients = set_same c.loop-k.clients.items c.loop-k.k x c.hear.new.client c.index_mut-client.ensures.value e.same ∙ h.clients;
      heard = each_to (λ y. Heard g.S.Server.is_closing (g.S.Server.has_died c.args.handler.now.server) y) c.args.clients.now.items c.loop-k.k x
          (subst (λ l. slice_get l c.loop-k.k ≡ Some x) h.clients at) (e.heard c.if-not-hear.false) h.heard;
    }
