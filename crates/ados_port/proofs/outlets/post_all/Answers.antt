use Rattle.std.proofs.Common.{arith, ap, ◌∙◌, ◌+◌, ◌<◌, length, ℕ}
use Rattle.ados_port.proofs.Eachs.{one_done, waiting_step}
use Rattle.ados_port.specs.Rings.{Offers}
use Rattle.ados_port.proofs.outlets.post_all.Goals as goal

pub loop-i-preserved : goal.loop-i-preserved
loop-i-preserved g c =
    let h = c.loop-i.invariant in
    let p = c.post_waiting-waiting.ensures in
    let within : c.loop-i.i < length c.loop-i.outlets.items = omega (arith, h.offers.0, c.len-i-end.ensures, c.args.outlets.now.ok, c.loop-i-test.true) in
    let step = waiting_step c.loop-i.outlets.items c.loop-i.i c.loop-i.waiting _ c.index_mut-outlet.result.now c.post_waiting-waiting.new.self h.count h.fewer within c.index_mut-outlet.ensures.value p.offers in
    record {
      offers = one_done (λ o q. Offers o q) _ _ _ _ _ h.offers within c.index_mut-outlet.ensures.value p.offers;
      count = ap (λ (n : ℕ). c.loop-i.waiting + n) p.count ∙ step.0;
      fewer = step.1;
    }
