use Rattle.ados_salvage.proofs.Common.{◌≡◌, length, AreSettled}
use Rattle.ados_salvage.proofs.loose.replace_lost.Given as goal

abbrev pub invariant-loop-place : goal.invariant-loop-place
invariant-loop-place l = record {
  settled : AreSettled l.known 0 l.gathered;
  count : length l.gathered.entries.items ≡ length l.initial.gathered.entries.items;
}
