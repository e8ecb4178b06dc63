use Rattle.std.proofs.Common.{◌*◌, get_or}
use Rattle.adf_block.specs.Image.{block_count}
use Rattle.ados_census.specs.steps.Placing.{ArePlacesBelow}
use Rattle.ados_census.proofs.places.places_of.Given as goal

abbrev pub invariant-loop-number : goal.invariant-loop-number
invariant-loop-number l = ArePlacesBelow l.census l.block (5 * get_or l.number-items (l.number-index) (128 * block_count l.census)) l.places.items
