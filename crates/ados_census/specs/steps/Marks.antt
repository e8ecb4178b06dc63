-- Blocks that are marked.
use Rattle.std.specs.Prelude.{◌≡◌, ℕ, suc, Bool, true, false, List, [], ◌∷◌, slice_index_or}

-- the block is marked
abbrev pub IsMarked : List Bool → ℕ → Type 0
IsMarked marks block = slice_index_or marks block false ≡ true

-- the number of marks that are not set
unfoldable pub unmarked : List Bool → ℕ
unmarked [] = 0
unmarked (true ∷ marks) = unmarked marks
unmarked (false ∷ marks) = suc (unmarked marks)
