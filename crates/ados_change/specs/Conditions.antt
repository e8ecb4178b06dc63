-- When an entry of a tree can be made, removed or renamed.
use Rattle.std.specs.Prelude.{◌≡◌, ◌≢◌, ℕ, List, [], Some, Contains}
use Rattle.ados_name.specs.Name.{Same, IsName}
use Rattle.ados_model.specs.Tree.{Content, Tree, content_at, entries, entries_in, name_of, parent_of}
use Rattle.ados_model.specs.Tree.Content.{Directory}

-- the key of a directory
abbrev pub IsDirectoryKey : Tree → ℕ → Type 0
IsDirectoryKey t key = (keys : List ℕ) × (content_at t key ≡ Some (Directory keys))

-- no entry of the directory has the name
abbrev pub IsNewName : Tree → ℕ → List ℕ → Type 0
IsNewName t dir name = (k : ℕ) → Contains (entries t dir) k → ¬ Same (name_of t k) name

-- an entry with this name can be made in the directory
pub record CanMake (t : Tree) (dir : ℕ) (name : List ℕ) : Type 0 where
  pub directory : IsDirectoryKey t dir
  pub valid : IsName name
  pub new_name : IsNewName t dir name

-- a file, or a directory without entries
abbrev pub IsEmpty : Content → Type 0
IsEmpty content = entries_in (Some content) ≡ []

-- the key is an entry of some directory, and has no entries itself
pub record CanRemove (t : Tree) (key : ℕ) : Type 0 where
  pub dir : ℕ
  pub listed : parent_of t key ≡ Some dir
  pub empty : entries t key ≡ []

-- the key is `above`, or is below it
pub data IsUnder (t : Tree) (above : ℕ) : ℕ → Type 0 where
  itself : {key : ℕ} → key ≡ above → IsUnder t above key
  by_parent : {key dir : ℕ} → parent_of t key ≡ Some dir → IsUnder t above dir → IsUnder t above key

-- an entry can move into a directory under a name: the directory is neither the entry nor below it, and no other entry
-- there has the name
pub record CanRename (t : Tree) (key dir : ℕ) (name : List ℕ) : Type 0 where
  pub from : ℕ
  pub listed : parent_of t key ≡ Some from
  pub directory : IsDirectoryKey t dir
  pub not_under : ¬ IsUnder t key dir
  pub valid : IsName name
  pub new_name : (k : ℕ) → Contains (entries t dir) k → k ≢ key → ¬ Same (name_of t k) name
