use Rattle.ados_salvage.proofs.Common.{◌≡◌, length, vec_len, block_count, GathersMore}
use Rattle.ados_salvage.specs.steps.Gathering.{AddsFound}
use Rattle.ados_salvage.proofs.unreached.add_with_parents.Given as goal

abbrev pub invariant-loop-step : goal.invariant-loop-step
invariant-loop-step l = length l.climbed.items ≡ block_count l.known.image

abbrev pub invariant-loop-dir : goal.invariant-loop-dir
invariant-loop-dir l = record {
  more : GathersMore l.known l.initial.gathered l.gathered;
  found : AddsFound l.known l.initial.gathered l.gathered;
}

abbrev pub decreases-loop-dir : goal.decreases-loop-dir
decreases-loop-dir l = vec_len l.above
