use Rattle.adf_where.proofs.Common.{◌≡◌, ◌++◌, length}
use Rattle.adf_where.specs.BlockMap.{cell}
use Rattle.adf_where.proofs.Numbered.{rest_from}
use Rattle.adf_where.proofs.map_lines.push_track_lines.Given as goal

-- the letters before this one, and the others behind them, are the whole text
abbrev pub invariant-loop-place : goal.invariant-loop-place
invariant-loop-place l =
    l.text.items ++ rest_from (cell (length l.letters)) l.letters l.place ≡ l.fn.text.items ++ rest_from (cell (length l.letters)) l.letters 0
