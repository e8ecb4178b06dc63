use Rattle.ados_check.proofs.Common.{◌≡◌, ℕ, ◌+◌, ◌<◌, length, slice_index, byte_at, upper}
use Rattle.ados_check.proofs.naming.upper_name.Given as goal

abbrev pub invariant-loop-i : goal.invariant-loop-i
invariant-loop-i l = record {
  size : length l.name ≡ 31;
  first : slice_index l.name 0 ≡ l.len;
  text : (k : ℕ) → k < l.i → slice_index l.name (k + 1) ≡ upper (byte_at l.source.bytes l.block (433 + k));
  rest : (k : ℕ) → l.i < k → slice_index l.name k ≡ 0;
}
