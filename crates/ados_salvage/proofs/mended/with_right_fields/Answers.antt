use Rattle.std.proofs.Common.{◌^◌, true}
use Rattle.ados_salvage.proofs.Common.{ℕ, ◌+◌, ◌<◌, ◌≡◌, Option, MatchOption, arith, subst, sym, mark_at}
use Rattle.ados_salvage.specs.PutRight.{IsPutRight}
use Rattle.ados_salvage.specs.declared.mended.WrongField.{WrongField}
use Rattle.ados_salvage.proofs.Mending.{ArePutBelow, put_more, put_none}
use Rattle.ados_salvage.proofs.mended.with_right_fields.Goals as goal
use Rattle.ados_salvage.proofs.mended.with_right_fields.Goals.{in-Some, in_default}

pub loop-block-preserved : goal.loop-block-preserved
loop-block-preserved c =
    let block = c.loop-block.block in
    let image = c.loop-block.image in
    let May : ℕ → Type 0 = λ b. mark_at c.args.marks.now b ≡ true in
    let tells = λ (o : Option WrongField). MatchOption o ((at due : ℕ) → May block → ¬ IsPutRight image block at due) (λ field. May block × IsPutRight image block field.at field.due) in
    let fits : block < 2 ^ 32 = omega (arith, c.loop-block-test.true, c.blocks-block-end.ensures.size.1) in
    elim c.match-wrong_field_of.branch [
      | in-Some w ↦
          (let told = subst tells w.in-Some.is c.wrong_field_of.ensures in
          subst (ArePutBelow May c.args.image (block + 1)) (sym w.image-is)
          (put_more May c.args.image image block c.loop-block.invariant w.set_summed.new.self w.in-Some.field.at w.in-Some.field.due told.0 told.1 fits w.set_summed.ensures.rest w.set_summed.ensures.long w.set_summed.ensures.sum))
      | in_default w ↦ subst (ArePutBelow May c.args.image (block + 1)) (sym w.image-is) (put_none May c.args.image image block c.loop-block.invariant (subst tells w.in_default.is c.wrong_field_of.ensures))
    ]
