use Rattle.adf_record.specs.steps.Losing.{IsCounted}
use Rattle.adf_record.proofs.Numbering.{NumbersBelow}
use Rattle.adf_record.proofs.lost.count_lost.Given as goal

abbrev pub invariant-loop-block : goal.invariant-loop-block
invariant-loop-block l = NumbersBelow (IsCounted l.image l.owners l.kind) l.block l.count
