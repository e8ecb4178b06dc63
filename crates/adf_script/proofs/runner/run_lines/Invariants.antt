use Rattle.adf_script.proofs.Common.{◌≡◌, ◌-◌, length, kept_lines}
use Rattle.adf_script.proofs.Telling.{SoFar}
use Rattle.adf_script.proofs.runner.run_lines.Given as goal

abbrev pub invariant-loop-values : goal.invariant-loop-values
invariant-loop-values g l = record {
  told : SoFar g.S.Server.gives g.S.Server.has_died l.fn.exchange.port l.moment l.script (g.W.Write.contents l.fn.writer) l.values.items l.exchange.port (g.W.Write.contents l.writer);
  lines : l.lines ≡ record { lines = kept_lines l.script; count = length l.values.items };
}

abbrev pub decreases-loop-values : goal.decreases-loop-values
decreases-loop-values g l = length l.lines.lines - l.lines.count
