use Rattle.std.proofs.Common.{◌≡◌, map, take}
use Rattle.adf_rescue.specs.Undelete.{slashed}
use Rattle.adf_rescue.proofs.asked.slashed.Given as goal

-- the names before this one
abbrev pub invariant-loop-name : goal.invariant-loop-name
invariant-loop-name l = l.path.items ≡ slashed (map (λ name. name.items) (take l.name-index l.names))
