use Rattle.ados_check.proofs.Common.{◌+◌, inl, sym, ◌∙◌, subst, arith, not-true, not-false}
use Rattle.ados_check.proofs.Entered.{AreEntered, entered_none, entered_twice, entered_more, all_unlike}
use Rattle.ados_check.proofs.names.check_names.Goals as goal
use Rattle.ados_check.proofs.names.check_names.Goals.{in-Some+in-Ok-true, in_default}

pub returns-in-Ok-false : goal.returns-in-Ok-false
returns-in-Ok-false c =
    inl (entered_twice c.args.source.now.bytes c.args.marks.now c.loop-block.block c.loop-block.names c.loop-block.invariant c.in-Some.dir c.upper_name-name.result c.in-Some.ensures c.upper_name-name.ensures c.requires
    (not-false _ (sym c.in-Ok-false.ensures.added ∙ c.in-Ok-false.field-0-test)))

pub loop-block-preserved : goal.loop-block-preserved
loop-block-preserved c =
    elim c.match-directory_of.branch [
      | in-Some+in-Ok-true w ↦
          subst (AreEntered c.args.source.now.bytes c.args.marks.now (c.loop-block.block + 1)) (sym w.names-is)
          (entered_more c.args.source.now.bytes c.args.marks.now c.loop-block.block c.loop-block.names c.loop-block.invariant w.in-Some.dir w.upper_name-name.result w.in-Some.ensures w.upper_name-name.ensures
          w.insert.new.self (not-true _ (sym w.in-Ok-true.ensures.added ∙ w.in-Ok-true.field-0-test)) w.in-Ok-true.ensures.updates.0 w.in-Ok-true.ensures.updates.1)
      | in_default w ↦
          subst (AreEntered c.args.source.now.bytes c.args.marks.now (c.loop-block.block + 1)) (sym w.names-is)
          (entered_none c.args.source.now.bytes c.args.marks.now c.loop-block.block c.loop-block.names c.loop-block.invariant w.in_default.ensures)
    ]

pub returns : goal.returns
returns c =
    all_unlike c.args.source.now.bytes c.args.marks.now c.loop-block.block c.loop-block.names c.requires (omega (arith, c.requires.size, c.blocks-block-end.ensures.count, c.loop-block-test.false, c.loop-block.auto.block-end)) c.loop-block.invariant
