-- The cache of entries listed or made last.
use Rattle.std.specs.Prelude.{ℕ, List, Contains}
use Rattle.ados_model.specs.Tree.{Tree, entries}
use Rattle.ados_model.specs.Stands.{Stands}

-- the key is an entry of the directory
abbrev pub IsListed : List ℕ → ℕ → ℕ → Type 0
IsListed image dir key = (t : Tree) → Stands image t → Contains (entries t dir) key

-- each pair is a directory and one of its entries
abbrev pub AreListed : List ℕ → List (ℕ × ℕ) → Type 0
AreListed image pairs = (dir key : ℕ) → Contains pairs (dir, key) → IsListed image dir key
