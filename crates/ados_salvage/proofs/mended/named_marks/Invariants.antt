use Rattle.ados_salvage.specs.steps.Accounting.{Adds}
use Rattle.ados_salvage.specs.steps.Mending.{NamesSome}
use Rattle.ados_salvage.proofs.NamedBlocks.{Upto}
use Rattle.ados_salvage.proofs.mended.named_marks.Given as goal

abbrev pub invariant-loop-block : goal.invariant-loop-block
invariant-loop-block l = Adds (Upto (NamesSome l.known.left_out l.known.image) l.block) l.initial.named.items l.named.items
