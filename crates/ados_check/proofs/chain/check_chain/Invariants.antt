use Rattle.ados_check.proofs.Common.{◌≡◌, ℕ, ◌*◌, ◌/◌, ◌<◌, ◌≤◌, take, slice_index, sum_by, held_count, pointer_block}
use Rattle.ados_check.proofs.Pointed.{blocks_upto}
use Rattle.ados_check.proofs.Linked.{IsPlacedAt}
use Rattle.ados_check.proofs.chain.check_chain.Given as goal

abbrev pub invariant-loop-position : goal.invariant-loop-position
invariant-loop-position l = record {
  holder : l.holder ≡ pointer_block l.source.bytes l.file (l.position / 72);
  block : l.block ≡ slice_index (blocks_upto l.source.bytes l.file l.count) l.position;
  placed : (k : ℕ) → k < l.position → IsPlacedAt l.source.bytes l.file l.count k;
  sum : l.sum ≡ sum_by (held_count l.source.bytes) (take l.position (blocks_upto l.source.bytes l.file l.count));
  few : l.sum ≤ 488 * l.position;
}
