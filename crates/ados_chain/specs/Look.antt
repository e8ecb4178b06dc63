-- The results of reads of a directory.
use Rattle.std.specs.Prelude.{◌≡◌, ◌<◌, ℕ, List, [], ◌∷◌, ◌++◌, Option, None, Some, Contains}
use Rattle.adf_block.specs.declared.layout.TheConstants.{TABLE_LONGS}
use Rattle.ados_name.specs.Name.{Same}
use Rattle.ados_chain.specs.Chains.{name_at, InChains}
use Rattle.ados_chain.specs.declared.read.Next.{Next}
use Rattle.ados_chain.specs.declared.read.Next.TheVariants.{Entry, End, NotAnEntry}

-- no entry has the same name
abbrev pub NoneNamed : List ℕ → List ℕ → List ℕ → Type 0
NoneNamed image name keys = (key : ℕ) → Contains keys key → ¬ Same (name_at image key) name

-- the key is the first of the entries with the same name
pub record IsFirstNamed (image name keys : List ℕ) (key : ℕ) : Type 0 where
  pub front : List ℕ
  pub back : List ℕ
  pub split : keys ≡ front ++ key ∷ back
  pub earlier : NoneNamed image name front
  pub same : Same (name_at image key) name

-- the first entry with the same name, or none if no entry has it
abbrev pub FindsNamed : List ℕ → List ℕ → List ℕ → Option ℕ → Type 0
FindsNamed image name keys None = NoneNamed image name keys
FindsNamed image name keys (Some key) = IsFirstNamed image name keys key

-- the slot whose chain has the key, or none if no chain has it
abbrev pub FindsSlot : (ℕ → List ℕ) → ℕ → Option ℕ → Type 0
FindsSlot chains key None = ¬ InChains chains key
FindsSlot chains key (Some s) = (s < TABLE_LONGS) × Contains (chains s) key

-- the first of the remaining keys; no list at all means that the key was not an entry
abbrev pub first_left : Option (List ℕ) → Next
first_left None = NotAnEntry
first_left (Some []) = End
first_left (Some (key ∷ keys)) = Entry key
