use Rattle.ados_validate.proofs.Common.{◌≡◌, ◌-◌, ◌≤◌, total}
use Rattle.ados_validate.proofs.Counted.{free_at}
use Rattle.ados_validate.proofs.counting.changed_marks.Given as goal

abbrev pub invariant-loop-block : goal.invariant-loop-block
invariant-loop-block l = record {
  were_free : l.were_free ≡ total (free_at l.old l.new) (l.block - 2);
  were_used : l.were_used ≡ total (free_at l.new l.old) (l.block - 2);
  few_free : l.were_free ≤ l.block;
  few_used : l.were_used ≤ l.block;
}
