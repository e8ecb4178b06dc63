-- The order in which new blocks of a file are allocated.
use Rattle.std.specs.Prelude.{ℕ, ◌+◌, ◌*◌, ◌<◌, ◌≤◌}
use Rattle.adf_block.specs.declared.layout.TheConstants.{TABLE_LONGS}

-- extension block q is higher than the data block at position i if an earlier pointer block has the pointer to it, and
-- lower if extension block q or a later one has it
abbrev pub InTurn : ℕ → ℕ → ℕ → ℕ → Type 0
InTurn q extension i block =
    (i < TABLE_LONGS * (q + 1) → block < extension) × (TABLE_LONGS * (q + 1) ≤ i → extension < block)
