use Rattle.adf_rescue.proofs.Runs.{AreRunsBelow}
use Rattle.adf_rescue.proofs.missing.gaps.Given as goal

-- the runs up to this number
abbrev pub invariant-loop-number : goal.invariant-loop-number
invariant-loop-number l = AreRunsBelow l.numbers l.count l.number-index l.next l.runs.items
