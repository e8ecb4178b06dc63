use Rattle.ados_faults.proofs.Common.{◌≡◌, length, AreKnown}
use Rattle.ados_faults.proofs.Sameness.{AreFirstSoFar}
use Rattle.ados_faults.proofs.names.first_names.Given as goal

abbrev pub invariant-loop-block : goal.invariant-loop-block
invariant-loop-block l = record {
  known : AreKnown l.image l.known;
  size : length l.first.items ≡ l.block;
  each : AreFirstSoFar l.image l.known l.first.items;
}
