use Rattle.ados_map.proofs.Common.{inl, inr, ◌∙◌, arith, same_trans, same_weaken, AtLong, map_long, page_block, page_of, MapPlace}
use Rattle.ados_map.proofs.PageLemmas.{marked_by}
use Rattle.ados_map.proofs.changes.put_mark.Goals as goal

pub returns-clause-marked : goal.returns-clause-marked
returns-clause-marked c =
    let old = c.args.image.now in
    let mid = c.set_long.new.self in
    let new = c.settle.new.self in
    let b = page_block old (page_of c.args.b) in
    let l = map_long c.args.b in
    let page = c.page_at-page.ensures.page in
    let first = same_weaken (AtLong b l) (MapPlace old c.args.b) old mid (λ d i at. (at.0, inr at.1)) (rw (← page) c.set_long.ensures.rest) in
    let second = same_weaken (AtLong b 0) (MapPlace old c.args.b) mid new (λ d i at. (at.0, inl at.1)) (rw (← page) c.settle.ensures.rest) in
    let put = c.settle.ensures.others c.page_at-page.result l (omega arith) (inr (omega arith)) ∙ c.set_long.ensures.long in
    marked_by old new c.args.b c.args.free c.requires.pages c.page_at-page.ensures.size.1 c.requires.inside
    (same_trans (MapPlace old c.args.b) old mid new first second)
    (rw (← page, ← c.long-old.ensures, put) c.with_bit-new.ensures)
    (rw (← page) c.settle.ensures.sum)
