use Rattle.ados_census.specs.steps.Marks.{unmarked}
use Rattle.ados_salvage.proofs.PointerBlocks.{Follows}
use Rattle.ados_salvage.proofs.known.holders.holders_of.Given as goal

abbrev pub invariant-loop-next : goal.invariant-loop-next
invariant-loop-next l = Follows l.image l.file l.passed.items l.holders.items l.holder

abbrev pub decreases-loop-next : goal.decreases-loop-next
decreases-loop-next l = unmarked l.passed.items
