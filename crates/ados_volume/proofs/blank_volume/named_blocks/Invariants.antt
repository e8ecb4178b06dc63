use Rattle.std.proofs.Common.{◌≡◌, ◌<◌, ◌+◌, ◌/◌, ◌&&◌, nat_le, nat_lt, ℕ, true, length, slice_index_or}
use Rattle.ados_volume.proofs.blank_volume.named_blocks.Given as goal

abbrev pub invariant-loop-block : goal.invariant-loop-block
invariant-loop-block l = record {
  count : length l.named.items ≡ l.fn.blocks;
  marks : (k : ℕ) → k < l.fn.blocks → slice_index_or l.named.items k true ≡ (nat_le ((l.fn.blocks + 1) / 2) k && nat_lt k l.block);
}
