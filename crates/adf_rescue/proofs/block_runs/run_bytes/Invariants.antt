use Rattle.std.proofs.Common.{◌≡◌, ◌+◌, ◌-◌, ◌≤◌}
use Rattle.std.specs.Prelude.{flat_map}
use Rattle.std.specs.List.{range_with_len}
use Rattle.adf_block.specs.Image.{bytes_at}
use Rattle.adf_block.specs.declared.layout.TheConstants.{BLOCK_BYTES}
use Rattle.adf_rescue.proofs.block_runs.run_bytes.Given as goal

-- the bytes of the blocks before this one
abbrev pub invariant-loop-block : goal.invariant-loop-block
invariant-loop-block l = record {
  begun : l.fn.run.first ≤ l.block;
  few : l.block - l.fn.run.first ≤ l.fn.run.last + 1 - l.fn.run.first;
  bytes : l.bytes.items ≡ flat_map (λ block. bytes_at l.image block 0 BLOCK_BYTES) (range_with_len l.fn.run.first (l.block - l.fn.run.first));
}
