-- The link to an entry of a hash chain.
use Rattle.std.specs.Prelude.{◌≡◌, ℕ, ◌+◌, ◌<◌, ◌≤◌, ◌⊎◌, List, [], ◌∷◌, ◌++◌, Contains}
use Rattle.adf_block.specs.declared.layout.TheConstants.{TABLE_LONGS, FIRST_SLOT, NEXT_IN_CHAIN}
use Rattle.ados_chain.specs.Relinks.{link_block, link_long}

-- the long is in the hash table of a directory, or is the next-in-chain long
abbrev pub IsLink : ℕ → Type 0
IsLink i = ((FIRST_SLOT ≤ i) × (i < FIRST_SLOT + TABLE_LONGS)) ⊎ (i ≡ NEXT_IN_CHAIN)

-- the key is that of the directory, or of an entry of the chain
abbrev pub IsNear : ℕ → List ℕ → ℕ → Type 0
IsNear dir keys near = (near ≡ dir) ⊎ Contains keys near

-- the rest of a chain starts with the entry, or is empty
abbrev pub BeginsWith : ℕ → List ℕ → Type 0
BeginsWith entry [] = Unit {0}
BeginsWith entry (key ∷ keys) = key ≡ entry

-- the long of the block is the link of the chain to the entry; or it ends the chain, which does not have the entry
pub record LeadsTo (dir s : ℕ) (keys : List ℕ) (entry block i : ℕ) : Type 0 where
  pub front : List ℕ
  pub rest : List ℕ
  pub split : keys ≡ front ++ rest
  pub absent : ¬ Contains front entry
  pub begins : BeginsWith entry rest
  pub at_block : block ≡ link_block dir front
  pub at_long : i ≡ link_long (FIRST_SLOT + s) front
