-- Runs of consecutive blocks, and their bytes.
use Rattle.std.specs.Prelude.{◌≡◌, ℕ, ◌+◌, ◌-◌, ◌<◌, ◌≤◌, List, All, AllPairs, flat_map}
use Rattle.std.specs.List.{range_with_len}
use Rattle.adf_block.specs.Image.{bytes_at}
use Rattle.adf_block.specs.declared.layout.TheConstants.{BLOCK_BYTES}
use Rattle.adf_rescue.specs.declared.block_runs.BlockRun.{BlockRun}

-- the blocks of a run, from its first to its last
abbrev pub run_blocks : BlockRun → List ℕ
run_blocks run = range_with_len run.first (run.last + 1 - run.first)

-- the runs of these blocks: they have exactly these, in order, and between two runs a block is missing. So none can be longer
pub record AreBlockRuns (blocks : List ℕ) (runs : List BlockRun) : Type 0 where
  pub some : All (λ run. run.first ≤ run.last) runs
  pub exact : flat_map run_blocks runs ≡ blocks
  pub apart : AllPairs (λ run later. run.last + 1 < later.first) runs

-- the bytes of the blocks of a run
abbrev pub run_bytes : List ℕ → BlockRun → List ℕ
run_bytes image run = flat_map (λ block. bytes_at image block 0 BLOCK_BYTES) (run_blocks run)
