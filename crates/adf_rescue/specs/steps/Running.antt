-- The runs of blocks, found one block after the other.
use Rattle.std.specs.Prelude.{ℕ, ◌+◌, ◌==◌, List, [], ◌∷◌, if◌then◌else◌}
use Rattle.adf_rescue.specs.declared.block_runs.BlockRun.{BlockRun}

-- a run with this first and this last block
abbrev pub run_of : ℕ → ℕ → BlockRun
run_of first last = record { first = first; last = last }

-- the runs of blocks behind these, of which the first and the last block so far are these: a run goes on as long as the next block follows
abbrev pub runs_from : ℕ → ℕ → List ℕ → List BlockRun
runs_from first last [] = run_of first last ∷ []
runs_from first last (next ∷ blocks) =
    if next == last + 1 then runs_from first next blocks else run_of first last ∷ runs_from next next blocks

-- the runs of blocks
abbrev pub runs : List ℕ → List BlockRun
runs [] = []
runs (block ∷ blocks) = runs_from block block blocks
