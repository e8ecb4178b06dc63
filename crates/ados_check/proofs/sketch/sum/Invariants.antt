use Rattle.ados_check.proofs.Common.{◌≡◌, ◌%◌, ◌^◌, total, long}
use Rattle.ados_check.proofs.sketch.sum.Given as goal

abbrev pub invariant-loop-i : goal.invariant-loop-i
invariant-loop-i l = l.sum ≡ total (long l.block 0) l.i % 2 ^ 32
