use Rattle.ados_salvage.proofs.Common.{◌≡◌, ℕ, ◌<◌, length, IsSome, block_count, IsHeader, AreGatheredBy, place_at}
use Rattle.ados_salvage.specs.steps.Gathering.{AddsFound}
use Rattle.ados_salvage.proofs.unreached.add_unreached.Given as goal

abbrev pub invariant-loop-block : goal.invariant-loop-block
invariant-loop-block l = record {
  gathered : AreGatheredBy l.known l.gathered;
  climbed : length l.climbed.items ≡ block_count l.known.image;
  all : (b : ℕ) → b < l.block → IsHeader l.known.left_out l.known.image b → IsSome (place_at l.gathered.places.items b);
  found : AddsFound l.known l.initial.gathered l.gathered;
}
