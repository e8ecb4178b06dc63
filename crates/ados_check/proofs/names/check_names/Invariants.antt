use Rattle.ados_check.proofs.Entered.{AreEntered}
use Rattle.ados_check.proofs.names.check_names.Given as goal

abbrev pub invariant-loop-block : goal.invariant-loop-block
invariant-loop-block l = AreEntered l.source.bytes l.marks l.block l.names
