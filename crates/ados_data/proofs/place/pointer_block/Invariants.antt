use Rattle.ados_data.proofs.Common.{◌≡◌, pointer_block}
use Rattle.ados_data.proofs.place.pointer_block.Given as goal

abbrev pub invariant-loop-passed : goal.invariant-loop-passed
invariant-loop-passed l = l.holder ≡ pointer_block l.image l.file l._passed
