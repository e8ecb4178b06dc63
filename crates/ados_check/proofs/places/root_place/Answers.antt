use Rattle.ados_check.proofs.Common.{◌≡◌, ◌+◌, ◌-◌, sym, ap, ◌∙◌, arith, long, root_page, root_slot}
use Rattle.ados_check.proofs.PlaceLemmas.{is_only}
use Rattle.ados_check.proofs.places.root_place.Goals as goal

pub returns-then-i-pages : goal.returns-then-i-pages
returns-then-i-pages c =
    let e : 79 + (c.args.i - 79) ≡ c.args.i = omega arith in
    is_only e (root_page {i = c.args.i - 79} (omega (arith, c.page_count-pages.ensures, c.blocks-2.ensures.count)))

pub returns-then-long-ne0 : goal.returns-then-long-ne0
returns-then-long-ne0 c =
    let range = c.is_slot.ensures.0 c.if-is_slot.true in
    let e : c.args.i ≡ 6 + (c.args.i - 6) = omega (arith, range.0) in
    is_only (sym e) (root_slot (omega (arith, range.0, range.1)) (λ z. c.if-long-ne0.true (c.long.ensures ∙ ap (long c.args.source.now.bytes c.args.block) e ∙ z)))
