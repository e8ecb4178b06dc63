-- The 72 hash chains of a directory, each a list of entries whose names have its slot.
use Rattle.std.specs.Prelude.{◌≡◌, ◌≢◌, ℕ, zero, suc, ◌<◌, ◌==◌, not, if◌then◌else◌, List, [], ◌∷◌, ◌++◌, filter, AllPairs, Contains}
use Rattle.adf_block.specs.Image.{block_count, root_key, IsInside, Chained}
use Rattle.adf_block.specs.Fields.{table_entry}
use Rattle.adf_block.specs.declared.layout.TheConstants.{TABLE_LONGS, NAME_BYTE, NEXT_IN_CHAIN}
use Rattle.adf_block.specs.Whole.{text_at}
use Rattle.ados_name.specs.Name.{IsName, slot}

-- the name in an entry's block
abbrev pub name_at : List ℕ → ℕ → List ℕ
name_at image key = text_at image key NAME_BYTE

-- the hash slot of that name
abbrev pub slot_at : List ℕ → ℕ → ℕ
slot_at image key = slot (name_at image key)

-- the block may be an entry of the directory: it is not a boot block, the root or the directory itself, and its name
-- is valid
pub record IsEntryBlock (image : List ℕ) (dir key : ℕ) : Type 0 where
  pub inside : IsInside (block_count image) key
  pub not_root : key ≢ root_key (block_count image)
  pub not_dir : key ≢ dir
  pub name : IsName (name_at image key)

-- the hash table of the directory starts exactly these lists; each element may be an entry, is in the list of its
-- name's slot, and occurs once
pub record LawfulChains (image : List ℕ) (dir : ℕ) (chains : ℕ → List ℕ) : Type 0 where
  pub inside : IsInside (block_count image) dir
  pub spelled : (s : ℕ) → s < TABLE_LONGS → Chained image NEXT_IN_CHAIN (table_entry image dir s) (chains s)
  pub once : (s : ℕ) → s < TABLE_LONGS → AllPairs (λ j k. j ≢ k) (chains s)
  pub entry : (s key : ℕ) → s < TABLE_LONGS → Contains (chains s) key → IsEntryBlock image dir key
  pub slotted : (s key : ℕ) → s < TABLE_LONGS → Contains (chains s) key → slot_at image key ≡ s

-- the directory has lawful chains; by `chains_same` they are the only ones
abbrev pub HasChains : List ℕ → ℕ → Type 0
HasChains image dir = (chains : ℕ → List ℕ) × LawfulChains image dir chains

-- one of the chains has the key
abbrev pub InChains : (ℕ → List ℕ) → ℕ → Type 0
InChains chains key = (s : ℕ) × (s < TABLE_LONGS) × Contains (chains s) key

-- the chains with the key appended to the chain of a slot
abbrev pub with_last : (ℕ → List ℕ) → ℕ → ℕ → ℕ → List ℕ
with_last chains slot key s = if s == slot then chains s ++ key ∷ [] else chains s

-- the chains without the key
abbrev pub without : (ℕ → List ℕ) → ℕ → ℕ → List ℕ
without chains key s = filter (λ other. not (other == key)) (chains s)

-- the chains of n slots from s, one after the other
unfoldable pub chains_from : (ℕ → List ℕ) → ℕ → ℕ → List ℕ
chains_from chains s zero = []
chains_from chains s (suc n) = chains s ++ chains_from chains (suc s) n

-- the entries in the order of the directory: by slot, then along each chain
abbrev pub entries_of : (ℕ → List ℕ) → List ℕ
entries_of chains = chains_from chains 0 TABLE_LONGS
