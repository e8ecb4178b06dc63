use Rattle.ados_faults.proofs.Common.{get_or, slice_get-get_or, MarkedFree, Root, cell_of, step_of}
use Rattle.ados_faults.proofs.Cells.{noted_on}
use Rattle.ados_faults.proofs.Looking.{looked_more, looked_none}
use Rattle.ados_faults.proofs.looks.look_at_all.Goals as goal

pub loop-step-init : goal.loop-step-init
loop-step-init c = record {
  noted = c.requires.noted;
  stays = record { stay = λ cell e. e };
  looked = looked_none c.args.image.now c.args.notes.now.cells.items c.args.steps.now;
}

pub loop-step-preserved : goal.loop-step-preserved
loop-step-preserved c =
    let n = c.loop-step.step-index in
    let step = get_or c.args.steps.now n (step_of 0 Root) in
    let on = noted_on c.note_if.ensures.stays c.look.ensures.stays in
    record {
      noted = c.look.ensures.noted;
      stays = noted_on c.loop-step.invariant.stays on;
      looked = looked_more c.args.image.now c.loop-step.notes.cells.items c.look.new.notes.cells.items c.args.steps.now n step (slice_get-get_or c.args.steps.now n (step_of 0 Root) c.loop-step-test.true)
          c.loop-step.invariant.looked on
          (record { wrongs = c.look.ensures.whole; free = λ h. c.look.ensures.stays.stay (cell_of MarkedFree step.block) (c.note_if.ensures.set (c.is_marked_free-free.ensures.1 h)) });
    }
