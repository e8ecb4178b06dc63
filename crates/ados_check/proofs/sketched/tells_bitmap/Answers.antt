use Rattle.ados_check.proofs.Common.{ℕ, ◌+◌, ◌<◌, ap, sym, ◌∙◌, subst, arith, long, pages_of, Tells}
use Rattle.ados_check.proofs.FilesTold.{page_first, bitmap_told}
use Rattle.ados_check.proofs.sketched.tells_bitmap.Goals as goal

pub long-requires-clause-told : goal.long-requires-clause-told
long-requires-clause-told c =
    let page = c.long-page.ensures ∙ ap (λ (b : ℕ). long c.args.source.now.bytes b (79 + c.loop-p.p)) c.root-root.ensures in
    let within : c.loop-p.p < pages_of c.args.source.now.bytes = omega (arith, c.loop-p-test.true, c.page_count-p-end.ensures, c.blocks-2.ensures.count) in
    subst (λ (b : ℕ). Tells c.args.source.now b 0) (sym page) (page_first c.args.source.now c.args.marks.now c.requires c.loop-p.p within)

pub returns : goal.returns
returns c = λ _.
    bitmap_told c.args.source.now c.args.marks.now c.requires
    (λ p l. c.loop-p.invariant p (omega (arith, l, c.loop-p-test.false, c.page_count-p-end.ensures, c.blocks-2.ensures.count)))
