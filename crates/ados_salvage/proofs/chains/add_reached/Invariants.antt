use Rattle.ados_salvage.specs.steps.Gathering.{AreGatheredBy}
use Rattle.ados_salvage.proofs.chains.add_reached.Given as goal

abbrev pub invariant-loop-place : goal.invariant-loop-place
invariant-loop-place l = AreGatheredBy l.known l.gathered
