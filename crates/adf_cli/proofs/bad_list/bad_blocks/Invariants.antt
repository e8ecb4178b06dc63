use Rattle.std.proofs.Common.{◌≡◌, ◌≤◌, ◌<◌, ◌+◌, ◌++◌, All, List, ℕ, length}
use Rattle.adf_script.specs.Lines.{lines_of}
use Rattle.adf_cli.specs.BadBlocks.{AreBad}
use Rattle.adf_cli.proofs.bad_list.bad_blocks.Given as goal

-- the lines before the rest name the blocks so far
abbrev pub invariant-loop-rest : goal.invariant-loop-rest
invariant-loop-rest l = record {
  bad : (before : List (List ℕ)) × (lines_of l.list ≡ before ++ lines_of l.rest) × (l.number ≡ length before) × AreBad l.blocks before l.found.items;
  inside : All (λ block. block < l.blocks) l.found.items;
  few : l.number + length l.rest ≤ length l.list;
}

abbrev pub decreases-loop-rest : goal.decreases-loop-rest
decreases-loop-rest l = length l.rest
