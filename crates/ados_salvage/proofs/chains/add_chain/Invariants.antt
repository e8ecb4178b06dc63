use Rattle.ados_salvage.specs.steps.Gathering.{AreGatheredBy}
use Rattle.ados_salvage.proofs.chains.add_chain.Given as goal

abbrev pub invariant-loop-passed : goal.invariant-loop-passed
invariant-loop-passed l = AreGatheredBy l.known l.gathered
