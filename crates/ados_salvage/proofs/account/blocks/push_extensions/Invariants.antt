use Rattle.std.proofs.Common.{◌≡◌, ◌++◌, map, take}
use Rattle.ados_salvage.specs.Parts.{extension_told}
use Rattle.ados_salvage.proofs.account.blocks.push_extensions.Given as goal

abbrev pub invariant-loop-block : goal.invariant-loop-block
invariant-loop-block l = l.told.items ≡ l.fn.told.items ++ map (extension_told l.image) (take l.block-index l.blocks)
