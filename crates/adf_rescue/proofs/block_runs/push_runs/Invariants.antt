use Rattle.std.proofs.Common.{◌≡◌, ◌++◌, drop}
use Rattle.adf_rescue.specs.steps.Running.{runs_from}
use Rattle.adf_rescue.proofs.block_runs.push_runs.Given as goal

-- the runs so far, and those of the other blocks behind them, are all runs
abbrev pub invariant-loop-next : goal.invariant-loop-next
invariant-loop-next l = l.runs.items ++ runs_from l.first l.last (drop l.next-index l.rest) ≡ l.fn.runs.items ++ runs_from l.block l.block l.rest
