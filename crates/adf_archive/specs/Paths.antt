-- The path of a directory or file.
use Rattle.std.specs.Prelude.{◌≡◌, ℕ, ◌<◌, ◌≤◌, List, [], ◌∷◌, ◌++◌, length, Option, Some, MatchOption}
use Rattle.adf_text.specs.Letters.{letters}
use Rattle.ados_model.specs.Tree.{Tree, name_of, parent_of, root}
use Rattle.adf_archive.specs.declared.path.TheConstants.{MOST_PATH_BYTES}

-- the path before the names in a directory: empty for the root, else the path before its own name, that name and `/`
pub data HasFront (t : Tree) : ℕ → List ℕ → Type 0 where
  at_root : {dir : ℕ} → dir ≡ root t → HasFront t dir []
  below : {dir above : ℕ} {front : List ℕ} → parent_of t dir ≡ Some above → HasFront t above front → HasFront t dir (front ++ (name_of t dir ++ 47 ∷ []))

-- the path of a directory or file: the path before the names in its directory, and its name; the root has none
pub record HasPath (t : Tree) (key : ℕ) (path : List ℕ) : Type 0 where
  pub dir : ℕ
  pub front : List ℕ
  pub parent : parent_of t key ≡ Some dir
  pub before : HasFront t dir front
  pub is : path ≡ front ++ name_of t key

-- this is the path in letters, if it is not too long
abbrev pub IsPathOf : Tree → ℕ → Option (List ℕ) → Type 0
IsPathOf t key told =
    MatchOption told ((path : List ℕ) → HasPath t key path → MOST_PATH_BYTES < length path)
    (λ text. (path : List ℕ) × HasPath t key path × (length path ≤ MOST_PATH_BYTES) × (text ≡ letters path))
