-- The stack of a walk over everything below a directory; the next entry is on top.
use Rattle.std.specs.Prelude.{ℕ, Option, List, map, reverse}
use Rattle.ados_model.specs.Tree.{Tree, entries}
use Rattle.ados_volume.specs.declared.below.Below.{Below}
use Rattle.ados_volume.specs.Below.{placed}

-- the entries of a directory at a position, the first on top
abbrev pub stacked : Tree → Option ℕ → ℕ → List Below
stacked t above dir = reverse (map (placed above) (entries t dir))
