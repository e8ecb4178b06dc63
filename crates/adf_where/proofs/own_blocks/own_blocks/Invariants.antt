use Rattle.adf_where.proofs.Common.{◌≡◌, ◌++◌, drop, own_from}
use Rattle.adf_where.proofs.own_blocks.own_blocks.Given as goal

-- the blocks before this one, and those of the others behind them, are all
abbrev pub invariant-loop-block : goal.invariant-loop-block
invariant-loop-block l = l.blocks.items ++ own_from l.key l.block (drop l.block l.owners) ≡ own_from l.key 0 l.owners
