use Rattle.std.proofs.Common.{◌≡◌, ◌++◌, take}
use Rattle.ados_salvage.specs.Parts.{alike}
use Rattle.ados_salvage.proofs.account.blocks.push_alike.Given as goal

abbrev pub invariant-loop-block : goal.invariant-loop-block
invariant-loop-block l = l.told.items ≡ l.fn.told.items ++ alike l.part (take l.block-index l.blocks)
