use Rattle.std.proofs.Common.{◌≡◌, ◌-◌, ◌/◌}
use Rattle.ados_salvage.proofs.AccountCommon.{pointer_block, Adds}
use Rattle.ados_salvage.proofs.OwnBlocks.{IsOfFile}
use Rattle.ados_salvage.proofs.account.accounted.mark_file.Given as goal

abbrev pub invariant-loop-i : goal.invariant-loop-i
invariant-loop-i l = record {
  holder : l.holder ≡ pointer_block l.image l.file ((l.i - 1) / 72);
  marked : Adds (IsOfFile l.image l.file l.i) l.fn.marks.items l.marks.items;
}
