use Rattle.ados_salvage.specs.steps.Accounting.{Adds}
use Rattle.ados_salvage.specs.steps.Mending.{NamesAt}
use Rattle.ados_salvage.proofs.NamedBlocks.{Upto}
use Rattle.ados_salvage.proofs.mended.mark_named.Given as goal

abbrev pub invariant-loop-at : goal.invariant-loop-at
invariant-loop-at l = Adds (Upto (NamesAt l.known.image l.block) l.at) l.fn.named.items l.named.items
