use Rattle.ados_salvage.proofs.Common.{◌≡◌, ℕ, ◌<◌, length, IsPutAt}
use Rattle.ados_salvage.proofs.pieces.put.Given as goal

abbrev pub invariant-loop-at : goal.invariant-loop-at
invariant-loop-at l = record {
  count : length l.bytes.items ≡ length l.initial.bytes.items;
  put : (k : ℕ) → k < length l.initial.bytes.items → IsPutAt l.image l.block l.initial.bytes.items l.bytes.items k;
}
