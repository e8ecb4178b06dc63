use Rattle.ados_faults.proofs.Common.{◌≡◌, ℕ, Option, Some, length, slice_get, pointers_of, IsHeld}
use Rattle.ados_faults.proofs.header_table.held_in_ofs.Given as goal

abbrev pub invariant-loop-header : goal.invariant-loop-header
invariant-loop-header l = record {
  size : length l.held.items ≡ l.header;
  each : (k : ℕ) (sum : Option ℕ) → slice_get l.held.items k ≡ Some sum → IsHeld l.image (pointers_of l.image k) sum;
}
