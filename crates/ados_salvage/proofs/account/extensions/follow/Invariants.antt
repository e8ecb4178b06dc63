use Rattle.ados_census.specs.steps.Marks.{unmarked}
use Rattle.ados_salvage.proofs.Walking.{Walks}
use Rattle.ados_salvage.proofs.account.extensions.follow.Given as goal

abbrev pub invariant-loop-next : goal.invariant-loop-next
invariant-loop-next l = Walks l.image l.file l.fn.marks.items l.marks.items l.holder

abbrev pub decreases-loop-next : goal.decreases-loop-next
decreases-loop-next l = unmarked l.marks.items
