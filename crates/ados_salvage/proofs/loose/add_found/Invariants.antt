use Rattle.ados_salvage.specs.steps.Settling.{AreSettled}
use Rattle.ados_salvage.proofs.loose.add_found.Given as goal

abbrev pub invariant-loop-part : goal.invariant-loop-part
invariant-loop-part l = AreSettled l.known l.next l.gathered
