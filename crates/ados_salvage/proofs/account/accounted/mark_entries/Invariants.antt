use Rattle.std.proofs.Common.{take}
use Rattle.ados_salvage.specs.Account.{OfOne}
use Rattle.ados_salvage.specs.steps.Accounting.{Adds, IsOwn}
use Rattle.ados_salvage.proofs.account.accounted.mark_entries.Given as goal

abbrev pub invariant-loop-entry : goal.invariant-loop-entry
invariant-loop-entry l = Adds (OfOne (IsOwn l.image) (take l.entry-index l.entries)) l.fn.marks.items l.marks.items
