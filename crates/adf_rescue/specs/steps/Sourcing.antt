-- The items of entries, while they are added.
use Rattle.std.specs.Prelude.{◌≡◌, ◌≢◌, ℕ, ◌≤◌, true, false, List, ◌++◌, codes, decimal, length, All, AllPairs, Option, Some, None}
use Rattle.std.specs.BTreeSet.{contains_text}
use Rattle.adf_host.specs.Notes.{note_of}
use Rattle.adf_host.specs.declared.trees.items.HostItem.{HostItem}
use Rattle.adf_rescue.specs.declared.sourced.SourcedItems.{SourcedItems}

-- a name in the directory of an item, as text: the number of the item, if it is not the top, then a slash and the name
abbrev pub place_text : Option ℕ → List ℕ → List ℕ
place_text None name = codes "/" ++ name
place_text (Some dir) name = decimal dir ++ codes "/" ++ name

-- two items of one directory have different names
abbrev pub AreNamedApart : HostItem → HostItem → Type 0
AreNamedApart one other = one.above ≡ other.above → one.name ≢ other.name

-- the name is in use in this directory, or it is not
abbrev pub IsInUse : SourcedItems → Option ℕ → List ℕ → Type 0
IsInUse out above name = contains_text out.taken (place_text above name) ≡ true

abbrev pub IsFree : SourcedItems → Option ℕ → List ℕ → Type 0
IsFree out above name = contains_text out.taken (place_text above name) ≡ false

-- the name is not in use in this directory, and where there are notes, that of its note is not
pub record IsFreeName (out : SourcedItems) (above : Option ℕ) (name : List ℕ) : Type 0 where
  pub own : IsFree out above name
  pub note : out.meta ≡ true → IsFree out above (note_of name)

-- two items of one directory have different names, the names of all are in use, and no text in use is longer than the longest one
pub record AreApart (out : SourcedItems) : Type 0 where
  pub apart : AllPairs AreNamedApart out.items.items
  pub used : All (λ item. IsInUse out item.above item.name) out.items.items
  pub short : (text : List ℕ) → contains_text out.taken text ≡ true → length text ≤ out.longest
