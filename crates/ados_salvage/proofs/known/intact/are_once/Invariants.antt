use Rattle.std.proofs.Common.{◌≡◌, ◌≢◌, ℕ, ◌<◌, ◌≤◌, All, length, get_or, slice_index}
use Rattle.ados_salvage.proofs.known.intact.are_once.Given as goal

abbrev pub invariant-loop-block : goal.invariant-loop-block
invariant-loop-block l = record {
  size : length l.users.items ≡ length l.initial.users.items;
  below : All (λ user. user ≤ l.file) l.users.items;
  noted : (k : ℕ) → k < l.block-index → get_or l.users.items (slice_index l.blocks k) 0 ≡ l.file;
  told : (b : ℕ) → b < length l.users.items → get_or l.users.items b 0 ≡ l.file → (k : ℕ) × (k < l.block-index) × (slice_index l.blocks k ≡ b);
  once : (i j : ℕ) → i < j → j < l.block-index → slice_index l.blocks i ≢ slice_index l.blocks j;
}
