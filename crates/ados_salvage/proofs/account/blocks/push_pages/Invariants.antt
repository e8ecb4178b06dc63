use Rattle.std.proofs.Common.{◌≡◌, ◌++◌, map}
use Rattle.std.specs.List.{range_with_len}
use Rattle.ados_salvage.specs.Parts.{page_told}
use Rattle.ados_salvage.proofs.account.blocks.push_pages.Given as goal

abbrev pub invariant-loop-p : goal.invariant-loop-p
invariant-loop-p l = l.told.items ≡ l.fn.told.items ++ map (page_told l.image) (range_with_len 0 l.p)
