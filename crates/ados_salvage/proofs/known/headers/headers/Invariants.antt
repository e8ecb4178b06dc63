use Rattle.ados_salvage.proofs.KnownCommon.{ℕ, ◌-◌, ◌<◌, ◌≤◌, length, slice_index, block_count, IsRoot, IsToldHeader, AreFound, AreSought, IsFound}
use Rattle.ados_salvage.proofs.known.headers.headers.Given as goal

abbrev pub invariant-loop-place : goal.invariant-loop-place
invariant-loop-place l = record {
  found : AreFound l.left_out l.image l.found;
  sound : (block : ℕ) → IsToldHeader l.left_out l.image block → IsFound l.found.marks.items block;
  root : (block : ℕ) → IsRoot l.image block → AreSought l.left_out l.image l.found.marks.items block;
  within : l.place ≤ length l.found.blocks.items;
  sought : (k : ℕ) → k < l.place → AreSought l.left_out l.image l.found.marks.items (slice_index l.found.blocks.items k);
}

abbrev pub decreases-loop-place : goal.decreases-loop-place
decreases-loop-place l = block_count l.image - l.place
