use Rattle.ados_data.proofs.Common.{◌-◌, ◌≡◌, ◌≤◌, ◌<◌, ◌+◌, ◌/◌, max, take, length, NoneFreeBelow, contents, pointer_block, overlaid, GrowsFile}
use Rattle.ados_data.proofs.write.write_near.Given as goal

abbrev pub invariant-loop-done : goal.invariant-loop-done
invariant-loop-done l = record {
  below : l.done ≤ length l.bytes;
  grown : GrowsFile l.fn.image l.file (max (length (contents l.fn.image l.file)) (l.pos + length l.bytes)) l.image;
  bound : NoneFreeBelow l.image l.bound;
  written : contents l.image l.file ≡ overlaid (contents l.initial.image l.file) l.pos (take l.done l.bytes);
  holder : l.done < length l.bytes → l.holder ≡ pointer_block l.image l.file ((l.pos + l.done) / l.room / 72);
}

abbrev pub decreases-loop-done : goal.decreases-loop-done
decreases-loop-done l = length l.bytes - l.done
