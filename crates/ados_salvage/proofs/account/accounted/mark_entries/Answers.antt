use Rattle.ados_salvage.specs.steps.Accounting.{IsOwn}
use Rattle.ados_salvage.proofs.Marking.{adds_more}
use Rattle.ados_salvage.proofs.account.accounted.mark_entries.Goals as goal

pub loop-entry-preserved : goal.loop-entry-preserved
loop-entry-preserved c =
    adds_more (IsOwn c.args.image.now) c.args.entries.now c.loop-entry.entry-index c.entry-item.result c.loop-entry-test.true c.entry-item.is c.args.marks.now.items c.loop-entry.marks.items c.mark_entry.new.marks.items
    c.loop-entry.invariant c.mark_entry.ensures
