-- The host paths of what is written: files, directories and notes; and which entries are written as files.
use Rattle.std.specs.Prelude.{◌≡◌, ℕ, ◌+◌, ◌<◌, List, [], ◌∷◌, ◌++◌, length, slice_index_or, Some, None}
use Rattle.adf_host.specs.declared.trees.items.HostItem.{HostItem}
use Rattle.ados_salvage.specs.declared.salvaged.Salvaged.{Salvaged}
use Rattle.ados_salvage.specs.declared.salvaged.State.{State}
use Rattle.ados_salvage.specs.declared.salvaged.State.TheVariants.{Whole, Doubtful, Broken}

-- the item at a place of a list
pub record IsItem (items : List HostItem) (place : ℕ) (item : HostItem) : Type 0 where
  pub inside : place < length items
  pub at : slice_index_or items place item ≡ item

-- the path of the item at a place, below the directory that all are written to: the names of the directories that it is in, from the
-- top, and then its own
pub data HasPath (items : List HostItem) : ℕ → List (List ℕ) → Type 0 where
  at_top : (place : ℕ) (path : List (List ℕ)) (item : HostItem) → IsItem items place item → item.above ≡ None → path ≡ item.name ∷ [] → HasPath items place path
  below : (place : ℕ) (path : List (List ℕ)) (item : HostItem) (dir : ℕ) (front : List (List ℕ)) → IsItem items place item → item.above ≡ Some dir → HasPath items dir front
      → path ≡ front ++ item.name ∷ [] → HasPath items place path

-- no two are written to one path. Names are compared byte by byte, as the host compares them
abbrev pub ArePathsApart : List HostItem → Type 0
ArePathsApart items = (one other : ℕ) (path : List (List ℕ)) → HasPath items one path → HasPath items other path → one ≡ other

-- the position of an entry with this state, if it is written as a file
abbrev pub file_at : ℕ → State → List ℕ
file_at place Whole = place ∷ []
file_at place (Doubtful heading length) = place ∷ []
file_at place (Broken missing cut length) = place ∷ []
file_at place state = []

-- the positions of those of these entries that are written as files: each file, and no directory and no lost entry
unfoldable pub files_from : ℕ → List Salvaged → List ℕ
files_from place [] = []
files_from place (entry ∷ rest) = file_at place entry.state ++ files_from (place + 1) rest
