use Rattle.ados_salvage.specs.steps.Accounting.{Adds}
use Rattle.ados_salvage.proofs.Marking.{IsPageBelow}
use Rattle.ados_salvage.proofs.account.accounted.mark_pages.Given as goal

abbrev pub invariant-loop-p : goal.invariant-loop-p
invariant-loop-p l = Adds (IsPageBelow l.image l.p) l.fn.marks.items l.marks.items
