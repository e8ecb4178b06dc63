-- Marks of blocks.
use Rattle.std.specs.Prelude.{◌≡◌, ℕ, Bool, true, false, List, slice_index_or}

-- whether the block is marked
abbrev pub mark_at : List Bool → ℕ → Bool
mark_at marks block = slice_index_or marks block false

-- the block is a hole, by the marks of all holes: nobody read it, so what stands in its place is not believed
abbrev pub IsHole : List Bool → ℕ → Type 0
IsHole holes block = mark_at holes block ≡ true
