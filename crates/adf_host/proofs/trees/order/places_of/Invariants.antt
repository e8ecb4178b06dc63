use Rattle.std.proofs.Common.{◌≡◌, map, take}
use Rattle.adf_host.proofs.trees.order.places_of.Given as goal

abbrev pub invariant-loop-pair : goal.invariant-loop-pair
invariant-loop-pair l = l.places.items ≡ map (λ pair. pair.1) (take l.pair-index l.pairs)
