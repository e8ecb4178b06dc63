use Rattle.ados_salvage.specs.PutRight.{MayBePutRight}
use Rattle.ados_salvage.specs.steps.Mending.{AreMarksFor}
use Rattle.ados_salvage.proofs.mended.lost_marks.Given as goal

abbrev pub invariant-loop-block : goal.invariant-loop-block
invariant-loop-block l = AreMarksFor (MayBePutRight l.known.left_out l.known.image) l.block l.lost.items
