use Rattle.ados_volume.proofs.Common.{IsBlankRoot, List, SameBut, Within, ap, arith, block_count, byte_at, length, page_count, same_count, subst, sym, ℕ, ◌*◌, ◌+◌, ◌<◌, ◌∙◌, ◌≡◌, ◌≤◌}
use Rattle.ados_volume.proofs.BlankRoot.{blank_root_is}
use Rattle.ados_volume.proofs.blank_volume.put_root.Goals as goal

pub returns-clause-root : goal.returns-clause-root
returns-clause-root c =
    let n = block_count c.args.image.now in
    let r = c.root-root.result in
    let z3 = c.set_long-3.new.self in
    let z4 = c.name_pages.new.image in
    let small : page_count n ≤ 25 = omega (arith, c.blocks-2.ensures.size.1, c.blocks-2.ensures.count) in
    let short : length c.bytes.result.now ≤ 30 = omega (arith, ap length c.bytes.ensures.value, c.bytes.ensures.valid.short) in
    let count : block_count z3 ≡ n =
    same_count _ c.set_long-2.new.self z3 c.set_long-3.ensures.rest
    ∙ same_count _ c.set_long.new.self c.set_long-2.new.self c.set_long-2.ensures.rest
    ∙ same_count _ c.args.image.now c.set_long.new.self c.set_long.ensures.rest in
    subst (λ (xs : List ℕ). IsBlankRoot n xs c.args.moment c.settle.new.self) c.bytes.ensures.value
    (blank_root_is n r c.bytes.result.now c.args.moment c.root-root.ensures small short
    c.args.image.now c.set_long.new.self c.set_long-2.new.self z3 z4 c.put_date.new.image c.put_text.new.image c.put_date-2.new.image c.put_date-3.new.image c.set_long-4.new.self c.settle.new.self
    (λ i l. ap (λ (b : ℕ). byte_at c.args.image.now b i) c.root-root.ensures ∙ c.requires i l)
    c.set_long.ensures.rest c.set_long-2.ensures.rest c.set_long-3.ensures.rest
    (subst (λ (m : ℕ). SameBut (Within r 316 (316 + 4 * page_count m)) z3 z4) count c.name_pages.ensures.rest)
    c.put_date.ensures.rest c.put_text.ensures.rest c.put_date-2.ensures.rest c.put_date-3.ensures.rest c.set_long-4.ensures.rest c.settle.ensures.rest
    c.set_long.ensures.long c.set_long-2.ensures.long c.set_long-3.ensures.long
    (λ p l. c.name_pages.ensures.named p (subst (λ (m : ℕ). p < page_count m) (sym count) l))
    c.put_date.ensures.date c.put_text.ensures.text c.put_date-2.ensures.date c.put_date-3.ensures.date c.set_long-4.ensures.long c.settle.ensures.sum)
