use Rattle.adf_where.proofs.Common.{◌≡◌, ◌++◌}
use Rattle.adf_where.specs.BlockMap.{header_tokens}
use Rattle.adf_where.proofs.Numbered.{rest_from}
use Rattle.adf_where.proofs.map_object.put_headers.Given as goal

-- the headers before this one, and the others behind them, are all
abbrev pub invariant-loop-block : goal.invariant-loop-block
invariant-loop-block l =
    (l.writer.before ≡ l.fn.writer.before)
    × (l.writer.tokens ++ rest_from header_tokens l.owners l.block ≡ l.fn.writer.tokens ++ rest_from header_tokens l.owners 0)
