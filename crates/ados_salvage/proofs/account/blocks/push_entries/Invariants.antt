use Rattle.std.proofs.Common.{◌≡◌, ◌++◌, take, flat_map}
use Rattle.ados_salvage.specs.Parts.{entry_told}
use Rattle.ados_salvage.proofs.account.blocks.push_entries.Given as goal

abbrev pub invariant-loop-entry : goal.invariant-loop-entry
invariant-loop-entry l = l.told.items ≡ l.fn.told.items ++ flat_map (entry_told l.image) (take l.entry-index l.entries)
