use Rattle.ados_validate.proofs.Common.{ℕ, ◌+◌, ◌<◌, ap, ◌∙◌, arith, long, pages_of}
use Rattle.ados_validate.proofs.SettlingPages.{page_within, settled_page, sums_more}
use Rattle.ados_validate.proofs.settled.settle_pages.Goals as goal

pub settle-requires-clause-block : goal.settle-requires-clause-block
settle-requires-clause-block c =
    let end = c.page_count-p-end.ensures in
    let blocks = c.blocks-3.ensures.count in
    let within : c.loop-p.p < pages_of c.args.image.now = omega (arith, end, blocks) in
    let few : c.loop-p.p < 25 = omega (arith, within) in
    page_within c.args.image.now c.loop-p.image c.requires c.loop-p.invariant.rest c.loop-p.p c.long-page.result within few
    (c.long-page.ensures ∙ ap (λ (b : ℕ). long c.loop-p.image b (79 + c.loop-p.p)) c.root-root.ensures)

pub loop-p-preserved : goal.loop-p-preserved
loop-p-preserved c =
    let old = c.args.image.now in
    let end = c.page_count-p-end.ensures in
    let blocks = c.blocks-3.ensures.count in
    let within : c.loop-p.p < pages_of old = omega (arith, end, blocks) in
    let few : c.loop-p.p < 25 = omega (arith, within) in
    let named = c.long-page.ensures ∙ ap (λ (b : ℕ). long c.loop-p.image b (79 + c.loop-p.p)) c.root-root.ensures in
    record {
      rest = settled_page old c.loop-p.image c.requires c.loop-p.invariant.rest c.settle.new.self c.loop-p.p c.long-page.result within few named c.settle.ensures.rest;
      sums =
          sums_more old c.loop-p.image c.requires c.loop-p.invariant.rest c.settle.new.self c.loop-p.p c.long-page.result within few named c.settle.ensures.rest c.settle.ensures.sum
          c.loop-p.invariant.sums;
    }
