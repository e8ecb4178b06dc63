use Rattle.ados_data.proofs.Common.{◌-◌, ◌≡◌, ◌++◌, ◌≤◌, ◌+◌, ◌/◌, take, drop, pointer_block, contents}
use Rattle.ados_data.proofs.read.read_near.Given as goal

abbrev pub invariant-loop-done : goal.invariant-loop-done
invariant-loop-done l = record {
  below : l.done ≤ l.count;
  holder : l.holder ≡ pointer_block l.image l.file ((l.pos + l.done) / l.room / 72);
  filled : l.buffer ≡ take l.done (drop l.pos (contents l.image l.file)) ++ drop l.done l.fn.buffer;
}

abbrev pub decreases-loop-done : goal.decreases-loop-done
decreases-loop-done l = l.count - l.done
