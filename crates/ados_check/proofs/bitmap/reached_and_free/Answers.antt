use Rattle.ados_check.proofs.Common.{refl, sym, ◌∙◌, arith, below_more}
use Rattle.ados_check.proofs.Accepted.{lawful_pages}
use Rattle.ados_check.proofs.Free.{marked_by, unmarked_by, free_in, inside, none_below, marked_free}
use Rattle.ados_check.proofs.bitmap.reached_and_free.Goals as goal
use Rattle.ados_check.proofs.bitmap.reached_and_free.Goals.{else-is_some-via-then-is_some+else-is_free, else-is_some-via-else-is_some}

pub loop-block-init : goal.loop-block-init
loop-block-init c = none_below c.args.source.now.bytes c.args.marks.now c.blocks-block-end.ensures.image c.requires.checked

pub returns-then-is_free-clause-found : goal.returns-then-is_free-clause-found
returns-then-is_free-clause-found c =
    let im = c.blocks-block-end.ensures.image in
    let at = marked_by c.args.marks.now c.loop-block.block (sym c.if-is_some.ensures) in
    marked_free c.args.source.now.bytes c.args.marks.now im c.requires.checked c.requires.valid (lawful_pages c.args.source.now.bytes c.args.marks.now c.requires.checked)
    c.loop-block.block at.0 at.1 (c.if-is_free.ensures.0 refl).free

pub loop-block-preserved : goal.loop-block-preserved
loop-block-preserved c = below_more _ _ c.loop-block.invariant (λ mark e free. elim c.else-is_some.branch [
  | else-is_some-via-then-is_some+else-is_free w ↦
      let pages = lawful_pages c.args.source.now.bytes c.args.marks.now c.requires.checked in
      let t = w.if-is_free.ensures.1 (free_in c.args.source.now.bytes c.args.marks.now c.blocks-block-end.ensures.image c.requires.checked pages c.loop-block.block mark e free) in
      cc t
  | else-is_some-via-else-is_some w ↦ absurd (unmarked_by c.args.marks.now c.loop-block.block mark (sym c.is_some.ensures ∙ w.if-is_some.false) e)
])

pub returns-clause-found : goal.returns-clause-found
returns-clause-found c = λ block mark e.
    let at = inside c.args.source.now.bytes c.args.marks.now c.blocks-block-end.ensures.image c.requires.checked block mark e in
    c.loop-block.invariant block (omega (arith, at.1, c.blocks-block-end.ensures.count, c.loop-block-test.false)) mark e
