use Rattle.std.proofs.Common.{◌≡◌, ◌-◌, ◌/◌, ◌++◌, map}
use Rattle.std.specs.List.{range_with_len}
use Rattle.ados_salvage.proofs.AccountCommon.{pointer_block}
use Rattle.ados_salvage.specs.Parts.{data_told}
use Rattle.ados_salvage.proofs.account.blocks.push_file.Given as goal

abbrev pub invariant-loop-i : goal.invariant-loop-i
invariant-loop-i l = record {
  holder : l.holder ≡ pointer_block l.image l.file ((l.i - 1) / 72);
  told : l.told.items ≡ l.fn.told.items ++ map (data_told l.image l.file) (range_with_len 0 l.i);
}
