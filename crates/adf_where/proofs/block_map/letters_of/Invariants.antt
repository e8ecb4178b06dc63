use Rattle.adf_where.proofs.Common.{◌≡◌, ◌++◌}
use Rattle.adf_where.specs.BlockMap.{owner_letter}
use Rattle.adf_where.proofs.Numbered.{rest_from}
use Rattle.adf_where.proofs.block_map.letters_of.Given as goal

-- the letters before this one, and the others behind them, are all
abbrev pub invariant-loop-block : goal.invariant-loop-block
invariant-loop-block l = l.letters.items ++ rest_from (owner_letter l.unread) l.owners l.block ≡ rest_from (owner_letter l.unread) l.owners 0
