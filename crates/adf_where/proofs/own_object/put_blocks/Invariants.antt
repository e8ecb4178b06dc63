use Rattle.adf_where.proofs.Common.{◌≡◌, ◌++◌, flat_map, take}
use Rattle.adf_where.specs.Own.{block_number}
use Rattle.adf_where.proofs.own_object.put_blocks.Given as goal

-- the numbers of the blocks before this one
abbrev pub invariant-loop-block : goal.invariant-loop-block
invariant-loop-block l = record {
  before : l.writer.before ≡ l.fn.writer.before;
  tokens : l.writer.tokens ≡ l.fn.writer.tokens ++ flat_map block_number (take l.block-index l.blocks);
}
