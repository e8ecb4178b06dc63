use Rattle.std.proofs.Common.{◌≡◌, ◌++◌, drop}
use Rattle.adf_c.specs.Owners.{told_owners}
use Rattle.adf_c.proofs.values.owners.told_owners.Given as goal

abbrev pub invariant-loop-block : goal.invariant-loop-block
invariant-loop-block l = l.told.items ++ told_owners l.block (drop l.block l.owners) ≡ told_owners 0 l.owners
