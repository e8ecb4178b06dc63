use Rattle.ados_salvage.proofs.Common.{◌≡◌, ◌*◌, ◌/◌, min, take, format_of, contents, pointer_block, data_size}
use Rattle.ados_salvage.proofs.saved.whole_bytes.Given as goal

abbrev pub invariant-loop-i : goal.invariant-loop-i
invariant-loop-i l = record {
  holder : l.holder ≡ pointer_block l.image l.file (l.i / 72);
  bytes : l.bytes.items ≡ take (min (data_size (format_of l.image) * l.i) l.size) (contents l.image l.file);
}
