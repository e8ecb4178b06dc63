-- Keys of the tree that an image represents.
use Rattle.std.specs.Prelude.{◌≡◌, ◌≢◌, ℕ, List, Some, IsSome}
use Rattle.ados_model.specs.Tree.{Tree, content_at, root}
use Rattle.ados_model.specs.Tree.Content.{Directory, File}
use Rattle.ados_model.specs.Stands.{Stands}

-- the key of a node
abbrev pub HasKey : List ℕ → ℕ → Type 0
HasKey image key = (t : Tree) → Stands image t → IsSome (t.nodes key)

-- the key of a node other than the root
abbrev pub HasEntryKey : List ℕ → ℕ → Type 0
HasEntryKey image key = (t : Tree) → Stands image t → IsSome (t.nodes key) × (key ≢ root t)

-- the key of a directory
abbrev pub HasDirectory : List ℕ → ℕ → Type 0
HasDirectory image key = (t : Tree) → Stands image t → (keys : List ℕ) × (content_at t key ≡ Some (Directory keys))

-- the key of a file
abbrev pub HasFileKey : List ℕ → ℕ → Type 0
HasFileKey image key = (t : Tree) → Stands image t → (bytes : List ℕ) × (content_at t key ≡ Some (File bytes))

-- the image represents a tree
abbrev pub HasTree : List ℕ → Type 0
HasTree image = (t : Tree) × Stands image t
