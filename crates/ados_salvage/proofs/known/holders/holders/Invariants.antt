use Rattle.ados_salvage.proofs.KnownCommon.{◌≡◌, ℕ, ◌<◌, length, slice_index, pointer_block, IsHolder}
use Rattle.ados_salvage.proofs.known.holders.holders.Given as goal

abbrev pub invariant-loop-q : goal.invariant-loop-q
invariant-loop-q l = record {
  holder : l.holder ≡ pointer_block l.image l.file l.q;
  size : length l.blocks.items ≡ l.q;
  block : (p : ℕ) → p < l.q → slice_index l.blocks.items p ≡ pointer_block l.image l.file p;
  sound : (p : ℕ) → p < l.q → IsHolder l.image l.file p (pointer_block l.image l.file p);
}
