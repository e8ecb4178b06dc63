use Rattle.ados_salvage.proofs.Common.{◌≡◌}
use Rattle.ados_salvage.specs.steps.Gathering.{AreGatheredBy}
use Rattle.ados_salvage.proofs.unreached.take_asides.Given as goal

abbrev pub invariant-loop-block : goal.invariant-loop-block
invariant-loop-block l = record {
  gathered : AreGatheredBy l.known l.gathered;
  same : l.gathered.entries.items ≡ l.initial.gathered.entries.items;
}
