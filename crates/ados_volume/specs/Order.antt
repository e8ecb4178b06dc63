-- From which keys a directory can be listed further.
use Rattle.std.specs.Prelude.{ℕ, List, IsSome}
use Rattle.ados_model.specs.Tree.{Tree}
use Rattle.ados_model.specs.Stands.{Stands}
use Rattle.ados_model.specs.Change.{entries_after}

-- the key is the directory's own, or that of one of its entries
abbrev pub IsPlaceIn : List ℕ → ℕ → ℕ → Type 0
IsPlaceIn image dir key = (t : Tree) → Stands image t → IsSome (entries_after t dir key)
