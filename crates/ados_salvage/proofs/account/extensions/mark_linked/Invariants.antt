use Rattle.std.proofs.Common.{take}
use Rattle.ados_salvage.specs.Account.{OfOne}
use Rattle.ados_salvage.specs.steps.Accounting.{Adds, AreClosed, IsLinkedOf}
use Rattle.ados_salvage.proofs.account.extensions.mark_linked.Given as goal

abbrev pub invariant-loop-entry : goal.invariant-loop-entry
invariant-loop-entry l = record {
  closed : AreClosed l.image l.marks.items;
  marked : Adds (OfOne (IsLinkedOf l.image) (take l.entry-index l.entries)) l.fn.marks.items l.marks.items;
}
