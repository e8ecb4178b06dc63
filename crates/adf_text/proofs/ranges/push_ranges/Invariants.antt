use Rattle.adf_text.proofs.Common.{◌≡◌, ◌++◌, drop}
use Rattle.adf_text.specs.Ranges.{ranges_from}
use Rattle.adf_text.proofs.ranges.push_ranges.Given as goal

-- the ranges so far, and those of the other numbers behind them, are the whole text
abbrev pub invariant-loop-next : goal.invariant-loop-next
invariant-loop-next l = l.text.items ++ ranges_from l.first l.last (drop l.next-index l.rest) ≡ l.fn.text.items ++ ranges_from l.number l.number l.rest
