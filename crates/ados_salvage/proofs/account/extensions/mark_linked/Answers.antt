use Rattle.ados_salvage.specs.steps.Accounting.{IsLinkedOf}
use Rattle.ados_salvage.proofs.Marking.{adds_more}
use Rattle.ados_salvage.proofs.account.extensions.mark_linked.Goals as goal

pub loop-entry-preserved : goal.loop-entry-preserved
loop-entry-preserved c = record {
  closed = c.mark_extensions_of.ensures.closed;
  marked = adds_more (IsLinkedOf c.args.image.now) c.args.entries.now c.loop-entry.entry-index c.entry-item.result c.loop-entry-test.true c.entry-item.is c.args.marks.now.items c.loop-entry.marks.items c.mark_extensions_of.new.marks.items
      c.loop-entry.invariant.marked c.mark_extensions_of.ensures.added;
}
