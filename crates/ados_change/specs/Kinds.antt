-- The content of a new entry, and when a change makes one.
use Rattle.std.specs.Prelude.{ℕ, List, []}
use Rattle.ados_name.specs.declared.stamp.Date3.{Date3}
use Rattle.ados_map.specs.Pages.{IsLowestFree}
use Rattle.ados_model.specs.Change.{made}
use Rattle.ados_model.specs.Stands.{Stands}
use Rattle.ados_model.specs.Tree.{Content, Tree}
use Rattle.ados_model.specs.Tree.Content.{Directory, File}
use Rattle.ados_change.specs.declared.node_kind.NodeKind.{NodeKind}
use Rattle.ados_change.specs.declared.node_kind.NodeKind.TheVariants as kinds

-- a directory without entries, or a file without bytes
abbrev pub content_of : NodeKind → Content
content_of kinds.Directory = Directory []
content_of kinds.File = File []

-- the key is the lowest free block, and the new image represents the tree with this new entry
abbrev pub Makes : Date3 → ℕ → List ℕ → NodeKind → ℕ → List ℕ → List ℕ → Type 0
Makes moment dir name kind key old new =
    IsLowestFree old key × ((t : Tree) → Stands old t → Stands new (made moment dir key name (content_of kind) t))
