-- The path before the names in a directory, by the directories that lead to it.
use Rattle.std.specs.Prelude.{ℕ, List, [], ◌∷◌, ◌++◌}
use Rattle.ados_model.specs.Tree.{Tree, name_of}

-- the names of directories, each followed by `/`, the last one first
abbrev pub names_down : Tree → List ℕ → List ℕ
names_down t [] = []
names_down t (key ∷ keys) = names_down t keys ++ (name_of t key ++ 47 ∷ [])
