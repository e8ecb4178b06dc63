use Rattle.ados_chain.proofs.Common.{◌≡◌, ◌-◌, ℕ, Some, ap, sym, ◌∙◌, subst, arith, Chained, NEXT_IN_CHAIN, chains_from, first_left}
use Rattle.ados_chain.proofs.Order.{first-here, first-later, first-all}
use Rattle.ados_chain.proofs.Chaining.{none_zero}
use Rattle.ados_chain.proofs.Walks.{begun, ended}
use Rattle.ados_chain.proofs.read.first_from.Goals as goal

pub returns-then-key-ne0 : goal.returns-then-key-ne0
returns-then-key-ne0 c =
    λ chains h.
    let spelled = subst (λ (first : ℕ). Chained c.args.image.now NEXT_IN_CHAIN first (chains c.loop-s.s)) (sym c.long-key.ensures) (h.spelled c.loop-s.s c.loop-s-test.true) in
    let b = begun c.args.image.now c.long-key.result (chains c.loop-s.s) spelled c.if-key-ne0.true in
    sym (c.loop-s.invariant chains h ∙ first-here chains c.loop-s.s c.long-key.result b.0 c.loop-s-test.true b.1)

pub loop-s-preserved : goal.loop-s-preserved
loop-s-preserved c =
    λ chains h.
    let spelled = subst (λ (first : ℕ). Chained c.args.image.now NEXT_IN_CHAIN first (chains c.loop-s.s)) (sym c.long-key.ensures ∙ c.if-key-ne0.false) (h.spelled c.loop-s.s c.loop-s-test.true) in
    let none = ended c.args.image.now (chains c.loop-s.s) (none_zero c.args.image.now c.args.dir chains h c.loop-s.s c.loop-s-test.true) spelled in
    c.loop-s.invariant chains h ∙ first-later chains c.loop-s.s c.loop-s-test.true none

pub returns : goal.returns
returns c =
    λ chains h.
    let at_end : c.loop-s.s ≡ 72 = omega (arith, c.loop-s-test.false, c.loop-s.auto.s-end, c.requires.slot) in
    sym (c.loop-s.invariant chains h ∙ ap (λ (s : ℕ). first_left (Some (chains_from chains s (72 - s)))) at_end ∙ first-all chains)
