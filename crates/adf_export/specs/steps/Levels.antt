-- The position of a listing.
use Rattle.std.specs.Prelude.{◌≡◌, ℕ, suc, ◌+◌, ◌*◌, ◌≤◌, List, [], ◌∷◌, ◌++◌, length, drop, flat_map, All, Contains, Some, if◌then◌else◌}
use Rattle.ados_model.specs.Keys.{HasKey}
use Rattle.ados_model.specs.Tree.{Tree, LeadsToRoot, name_of, parent_of}
use Rattle.ados_model.specs.Change.{is_file}
use Rattle.adf_cli.specs.declared.query.ListOrder.{ListOrder}
use Rattle.adf_export.specs.declared.listing.Level.{Level}
use Rattle.ados_volume.specs.Located.{Located}
use Rattle.adf_export.specs.Listing.{below, front, front_above, listed}
use Rattle.adf_export.specs.Ordered.{ordered}

-- the keys of a level are keys of the image's tree
abbrev pub HasKeys : List ℕ → Level → Type 0
HasKeys image level = All (HasKey image) level.keys.items

-- the same for each level
abbrev pub HaveKeys : List ℕ → List Level → Type 0
HaveKeys image levels = All (HasKeys image) levels

-- the keys of a level that are not listed yet
abbrev pub to_list : Level → List ℕ
to_list level = drop level.next level.keys.items

-- an entry with this path
abbrev pub entry_at : List ℕ → ℕ → Located
entry_at path key = record { path = path; key = key }

-- an entry with everything below it, to a depth of `levels`
abbrev pub with_below : Tree → ListOrder → ℕ → List ℕ → ℕ → List Located
with_below t order levels before key = entry_at (before ++ name_of t key) key ∷ below t order levels (before ++ name_of t key ++ 47 ∷ []) key

-- the path before the names of the first entries in a list, and their keys: a file itself, or the entries of a directory
abbrev pub first_path : Tree → ℕ → List ℕ
first_path t key = if is_file t key then front_above t key else front t t.blocks key

abbrev pub first_keys : Tree → ListOrder → ℕ → List ℕ
first_keys t order key = if is_file t key then key ∷ [] else ordered t order key

-- an open directory: the path before its names starts the current path, and its keys that are left are keys of entries
pub record IsOpen (t : Tree) (level : Level) (path : List ℕ) : Type 0 where
  pub before : List ℕ
  pub tail : List ℕ
  pub begins : path ≡ before ++ tail
  pub place : level.path ≡ length before
  pub dir : ℕ
  pub inside : (key : ℕ) → Contains (to_list level) key → parent_of t key ≡ Some dir
  pub rooted : LeadsToRoot t dir

-- what is left of the open directories: the rest of the last one, to the remaining depth, then the rest of those
-- before it
pub data IsLeft (t : Tree) (order : ListOrder) : List Level → List ℕ → List Located → ℕ → Type 0 where
  none : {path : List ℕ} → IsLeft t order [] path [] t.blocks
  more : {levels lower : List Level} {level : Level} {path : List ℕ} {left later : List Located} {depth : ℕ}
      → levels ≡ lower ++ level ∷ [] → (o : IsOpen t level path) → IsLeft t order lower o.before later (suc depth)
      → left ≡ flat_map (with_below t order depth o.before) (to_list level) ++ later → IsLeft t order levels path left depth

-- a listing so far: these entries were listed; this is left of the open directories; at most as many are open as were
-- listed; all entries are fewer than the blocks
pub record IsSoFar (t : Tree) (order : ListOrder) (key : ℕ) (levels : List Level) (path : List ℕ) (first left : List Located) : Type 0 where
  pub depth : ℕ
  pub few : length (listed t order key) + 1 ≤ t.blocks
  pub split : listed t order key ≡ first ++ left
  pub is_left : IsLeft t order levels path left depth
  pub high : length levels ≤ length first + 1

-- a measure of what is left
abbrev pub work : List Level → List Located → ℕ
work levels left = 2 * length left + length levels
