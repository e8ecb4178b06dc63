use Rattle.ados_chain.proofs.Common.{◌<◌, ℕ, sym, subst, inl, inr, cases_eq, block_count}
use Rattle.ados_chain.proofs.Spelling.{steps}
use Rattle.ados_chain.proofs.Walks.{key_in, steps_fall, links_begin, links_more, links_all}
use Rattle.ados_chain.proofs.link.end_of.Goals as goal

pub long-key-requires-in-loop-key-clause-block : goal.long-key-requires-in-loop-key-clause-block
long-key-requires-in-loop-key-clause-block c =
    let chains = c.requires.chains.0 in
    let h = c.requires.chains.1 in
    let w = c.loop-key.invariant chains h in
    (h.entry c.args.slot c.loop-key.key c.requires.slot (key_in c.args.image.now c.args.dir chains h c.args.slot c.requires.slot c.loop-key.key w.front w.rest w.stands c.loop-key-test.true)).inside.1

pub loop-key-smaller : goal.loop-key-smaller
loop-key-smaller c =
    let chains = c.requires.chains.0 in
    let h = c.requires.chains.1 in
    let w = c.loop-key.invariant chains h in
    subst (λ (n : ℕ). steps c.args.image.now (block_count c.args.image.now) n < steps c.args.image.now (block_count c.args.image.now) c.loop-key.key)
    (sym c.long-key-in-loop-key.ensures)
    (steps_fall c.args.image.now c.args.dir chains h c.args.slot c.requires.slot c.loop-key.key w.front w.rest w.stands c.loop-key-test.true)

pub loop-key-preserved : goal.loop-key-preserved
loop-key-preserved c =
    λ chains h.
    links_more c.args.image.now c.args.dir chains h c.args.slot c.requires.slot 0 c.loop-key.link.block c.loop-key.link.long c.loop-key.key (c.loop-key.invariant chains h) c.loop-key-test.true c.loop-key-test.true c.behind-link.result.block c.behind-link.result.long c.long-key-in-loop-key.result c.behind-link.ensures.block c.behind-link.ensures.long c.long-key-in-loop-key.ensures

pub returns : goal.returns
returns c =
    λ chains h. links_all c.args.image.now c.args.dir chains h c.args.slot c.requires.slot 0 c.loop-key.link.block c.loop-key.link.long c.loop-key.key (c.loop-key.invariant chains h) (inl c.loop-key-test.false)

pub loop-key-init : goal.loop-key-init
loop-key-init c = λ chains h.
    links_begin c.args.image.now c.args.dir chains h c.args.slot c.requires.slot c.args.near c.after-link.result.block c.after-link.result.long c.long-key.result (c.requires.near chains h) c.after-link.ensures.start c.after-link.ensures.later c.long-key.ensures

pub long-key-requires-clause-block : goal.long-key-requires-clause-block
long-key-requires-clause-block c =
    let chains = c.requires.chains.0 in
    let h = c.requires.chains.1 in
    let count = block_count c.args.image.now in
    let near_inside : c.args.near < count = elim (c.requires.near chains h) [
      | inl e ↦ subst (λ (b : ℕ). b < count) (sym e) h.inside.1
      | inr m ↦ (h.entry c.args.slot c.args.near c.requires.slot m).inside.1
    ] in
    elim (cases_eq c.args.near c.args.dir) [
      | inl e ↦ subst (λ (b : ℕ). b < count) (sym (c.after-link.ensures.start e).0) h.inside.1
      | inr n ↦ subst (λ (b : ℕ). b < count) (sym (c.after-link.ensures.later n).0) near_inside
    ]
