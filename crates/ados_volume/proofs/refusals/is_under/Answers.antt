use Rattle.ados_volume.proofs.Common.{None, Some, ap, arith, block_count, count_same, parent_of, suc, sym, ℕ, ◌+◌, ◌-◌, ◌∙◌, ◌≡◌}
use Rattle.ados_volume.proofs.Climbing.{climbs, ends, meets, met}
use Rattle.ados_volume.proofs.refusals.is_under.Goals as goal

pub returns-then-key-above : goal.returns-then-key-above
returns-then-key-above c = λ t s. sym (met t c.args.above c.loop-step.key (t.blocks - c.loop-step._step) c.if-key-above.true) ∙ c.loop-step.invariant.rest t s

pub returns-in-None : goal.returns-in-None
returns-in-None c = λ t s.
    let none : parent_of t c.loop-step.key ≡ None = sym (c.parent.ensures.parent t s) ∙ c.in-None.is in
    sym (ends t c.args.above c.loop-step.key (t.blocks - c.loop-step._step) c.if-key-above.false none) ∙ c.loop-step.invariant.rest t s

pub loop-step-preserved : goal.loop-step-preserved
loop-step-preserved c = record {
  key = c.in-Some.ensures.key;
  rest = λ t s.
      let up : parent_of t c.loop-step.key ≡ Some c.in-Some.next = sym (c.parent.ensures.parent t s) ∙ c.in-Some.is in
      let blocks = c.blocks-step-end.ensures.count ∙ ap block_count c.image.ensures.same ∙ count_same c.args.volume.now.image t s in
      let left : t.blocks - c.loop-step._step ≡ suc (t.blocks - (c.loop-step._step + 1)) = omega (arith, blocks) in
      sym (climbs t c.args.above c.loop-step.key (t.blocks - (c.loop-step._step + 1)) c.in-Some.next c.if-key-above.false up)
      ∙ sym (ap (λ (n : ℕ). meets t c.args.above n c.loop-step.key) left) ∙ c.loop-step.invariant.rest t s;
}
