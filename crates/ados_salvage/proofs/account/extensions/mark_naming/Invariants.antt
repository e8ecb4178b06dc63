use Rattle.ados_salvage.specs.steps.Accounting.{Adds, IsLooseOfAny}
use Rattle.ados_salvage.proofs.DamagedHeaders.{Below}
use Rattle.ados_salvage.proofs.account.extensions.mark_naming.Given as goal

abbrev pub invariant-loop-block : goal.invariant-loop-block
invariant-loop-block l = Adds (Below (IsLooseOfAny l.image l.headers) l.block) l.fn.marks.items l.marks.items
