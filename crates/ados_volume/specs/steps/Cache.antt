-- The cache of entries by their directories and names, and the hash slots whose entries are all in it.
use Rattle.std.specs.Prelude.{◌≡◌, ◌≢◌, ◌⊎◌, ℕ, ◌+◌, ◌*◌, ◌-◌, ◌<◌, Bool, IsTrue, List, [], ◌++◌, Some, map, length, replicate, Contains}
use Rattle.std.specs.Ordering.{nat_cmp, ordering_then}
use Rattle.std.specs.Cmp.Lexicographic.{slice_cmp}
use Rattle.std.specs.BTreeMap.{BTreeMap, get}
use Rattle.std.specs.BTreeSet.{BTreeSet, contains}
use Rattle.std.specs.declared.cmp.Ordering.{Ordering}
use Rattle.adf_block.specs.declared.layout.TheConstants.{TABLE_LONGS}
use Rattle.ados_name.specs.Name.{upper, Same, slot}
use Rattle.ados_model.specs.Tree.{Tree, entries, name_of}
use Rattle.ados_model.specs.Stands.{Stands}
use Rattle.ados_model.specs.Change.{child_of}
use Rattle.ados_volume.specs.declared.cache.Sought.{Sought}

-- the key of the cache for a name in a directory: the name in upper case, padded with zeros
pub record Seeks (sought : Sought) (in_dir : ℕ) (name : List ℕ) : Type 0 where
  pub dir : sought.dir ≡ in_dir
  pub count : sought.length ≡ length name
  pub letters : sought.letters ≡ map upper name ++ replicate (30 - length name) 0

-- the order of keys: by directory, then by the length of the name, then by its letters
abbrev pub sought_cmp : Sought → Sought → Ordering
sought_cmp a b = ordering_then (nat_cmp a.dir b.dir) (ordering_then (nat_cmp a.length b.length) (slice_cmp nat_cmp a.letters b.letters))

-- the cache has this key for the directory and the name
pub record HasPair (pairs : BTreeMap Sought ℕ) (in_dir : ℕ) (name : List ℕ) (key : ℕ) : Type 0 where
  pub sought : Sought
  pub found : get sought_cmp pairs sought ≡ Some key
  pub seeks : Seeks sought in_dir name

-- the cache has no key for the directory and the name
abbrev pub IsUnknown : BTreeMap Sought ℕ → ℕ → List ℕ → Type 0
IsUnknown pairs dir name = (n : List ℕ) (key : ℕ) → Same n name → ¬ HasPair pairs dir n key

-- each pair of the new map is in the old one, or is that of the directory, name and key
abbrev pub Adds : BTreeMap Sought ℕ → ℕ → List ℕ → ℕ → BTreeMap Sought ℕ → Type 0
Adds old dir name key new = (d : ℕ) (n : List ℕ) (k : ℕ) → HasPair new d n k → HasPair old d n k ⊎ ((d ≡ dir) × Same n name × (k ≡ key))

-- each pair of the old map is in the new one, or is for the directory and the name, which now have the key
abbrev pub Keeps : BTreeMap Sought ℕ → ℕ → List ℕ → ℕ → BTreeMap Sought ℕ → Type 0
Keeps old dir name key new = (d : ℕ) (n : List ℕ) (k : ℕ) → HasPair old d n k → HasPair new d n k ⊎ ((d ≡ dir) × Same n name × HasPair new dir name key)

-- the pair of the directory, name and key was put into the map, or there was no memory for it
pub record Puts (old : BTreeMap Sought ℕ) (dir : ℕ) (name : List ℕ) (key : ℕ) (new : BTreeMap Sought ℕ) (done : Bool) : Type 0 where
  pub adds : Adds old dir name key new
  pub keeps : Keeps old dir name key new
  pub there : IsTrue done → HasPair new dir name key

-- the directory and the name have no pair, and no pair is new
abbrev pub TakesOut : BTreeMap Sought ℕ → ℕ → List ℕ → BTreeMap Sought ℕ → Type 0
TakesOut old dir name new = (d : ℕ) (n : List ℕ) (k : ℕ) → HasPair new d n k → HasPair old d n k × ¬ ((d ≡ dir) × Same n name)

-- the hash slot of the directory is marked as whole
abbrev pub HasMark : BTreeSet ℕ → ℕ → ℕ → Type 0
HasMark whole dir s = IsTrue (contains nat_cmp whole (TABLE_LONGS * dir + s))

-- a new entry is in the map, and the marks are the same; or no slot is marked
pub record Enters (old : BTreeMap Sought ℕ) (old_whole : BTreeSet ℕ) (dir : ℕ) (name : List ℕ) (key : ℕ) (new : BTreeMap Sought ℕ) (new_whole : BTreeSet ℕ) : Type 0 where
  pub adds : Adds old dir name key new
  pub keeps : Keeps old dir name key new
  pub whole : ((new_whole ≡ old_whole) × HasPair new dir name key) ⊎ (new_whole.keys ≡ [])

-- each pair is a child of the tree
abbrev pub AreChildren : List ℕ → BTreeMap Sought ℕ → Type 0
AreChildren image pairs = (dir : ℕ) (name : List ℕ) (key : ℕ) → HasPair pairs dir name key → (t : Tree) → Stands image t → child_of t dir name ≡ Some key

-- each entry of the directory in the hash slot has its pair
abbrev pub IsWhole : List ℕ → BTreeMap Sought ℕ → ℕ → ℕ → Type 0
IsWhole image pairs dir s = (t : Tree) → Stands image t → (key : ℕ) → Contains (entries t dir) key → slot (name_of t key) ≡ s → HasPair pairs dir (name_of t key) key

-- each marked hash slot is whole
abbrev pub AreWhole : List ℕ → BTreeMap Sought ℕ → BTreeSet ℕ → Type 0
AreWhole image pairs whole = (dir s : ℕ) → s < TABLE_LONGS → HasMark whole dir s → IsWhole image pairs dir s

-- no pair has this key, and no pair is new
abbrev pub Forgets : List ℕ → ℕ → BTreeMap Sought ℕ → BTreeMap Sought ℕ → Type 0
Forgets image key old new = (d : ℕ) (n : List ℕ) (k : ℕ) → HasPair new d n k → HasPair old d n k × ((t : Tree) → Stands image t → child_of t d n ≢ Some key)
