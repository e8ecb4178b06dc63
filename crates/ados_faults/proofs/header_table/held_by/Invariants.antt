use Rattle.ados_faults.proofs.Common.{◌≡◌, ◌-◌, ◌^◌, ◌<◌, ℕ, min, take, slice_index, sum_by, held_count, InImage, pointers_of}
use Rattle.ados_faults.proofs.header_table.held_by.Given as goal

abbrev pub invariant-loop-i : goal.invariant-loop-i
invariant-loop-i l = record {
  inside : (k : ℕ) → k < l.i → InImage l.image (slice_index (pointers_of l.image l.header) k);
  summed : l.sum ≡ min (sum_by (held_count l.image) (take l.i (pointers_of l.image l.header))) (2 ^ 64 - 1);
}
