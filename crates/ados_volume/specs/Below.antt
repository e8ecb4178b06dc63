-- Everything below a directory, in the order of the walk.
use Rattle.std.specs.Prelude.{◌≡◌, ◌≢◌, ℕ, suc, ◌+◌, Option, Some, List, [], ◌∷◌, ◌++◌, length, map, AllPairs}
use Rattle.ados_model.specs.Tree.{Tree, entries}
use Rattle.ados_volume.specs.declared.below.Below.{Below}

-- an entry of the directory at a position of the list
abbrev pub placed : Option ℕ → ℕ → Below
placed above key = record { key = key; above = above }

-- from position `at` of a list on, the entries of these keys, whose directory is at position `above`. Each is directly
-- followed by everything below it: a directory before its entries, these in its order
pub data AreBelow (t : Tree) : Option ℕ → ℕ → List ℕ → List Below → Type 0 where
  none : {above : Option ℕ} {at : ℕ} → AreBelow t above at [] []
  entry : {above : Option ℕ} {at key : ℕ} {keys : List ℕ} {inner others : List Below}
      → AreBelow t (Some at) (suc at) (entries t key) inner → AreBelow t above (length inner + suc at) keys others
      → AreBelow t above at (key ∷ keys) (placed above key ∷ (inner ++ others))

-- a list has grown by everything below this directory, which is at position `above`; each key is new once
pub record HasGrown (t : Tree) (above : Option ℕ) (dir : ℕ) (old new : List Below) : Type 0 where
  pub more : List Below
  pub grown : new ≡ old ++ more
  pub below : AreBelow t above (length old) (entries t dir) more
  pub once : AllPairs (λ j k. j ≢ k) (map (λ e. e.key) more)
