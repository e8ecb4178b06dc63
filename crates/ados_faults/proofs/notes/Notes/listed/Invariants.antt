use Rattle.ados_faults.proofs.Common.{AreListed}
use Rattle.ados_faults.proofs.notes.Notes.listed.Given as goal

abbrev pub invariant-loop-cell : goal.invariant-loop-cell
invariant-loop-cell l = AreListed l.image l.self.cells.items l.most l.cell l.faults.items
