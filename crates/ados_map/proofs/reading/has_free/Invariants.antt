use Rattle.ados_map.proofs.Common.{◌≡◌, ◌≤◌, ◌*◌}
use Rattle.ados_map.proofs.Counting.{free_before}
use Rattle.ados_map.proofs.reading.has_free.Given as goal

abbrev pub invariant-loop-w : goal.invariant-loop-w
invariant-loop-w l = record {
  counted : l.found ≡ free_before l.image l.w;
  bound : l.found ≤ 32 * l.w;
}
