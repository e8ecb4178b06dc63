use Rattle.ados_salvage.specs.steps.Gathering.{AreGatheredBy}
use Rattle.ados_salvage.proofs.chains.add_chains.Given as goal

abbrev pub invariant-loop-slot : goal.invariant-loop-slot
invariant-loop-slot l = AreGatheredBy l.known l.gathered
