use Rattle.std.proofs.Common.{◌+◌, ◌*◌}
use Rattle.adf_block.specs.Image.{long}
use Rattle.ados_census.specs.steps.Placing.{ArePlacesBelow}
use Rattle.ados_census.proofs.places.push_places.Given as goal

abbrev pub invariant-loop-number : goal.invariant-loop-number
invariant-loop-number l = ArePlacesBelow l.reached (long l.reached l.holder l.i) (640 * l.holder + 5 * l.i + l.number) l.places.items
