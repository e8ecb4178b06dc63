-- A change of a hash chain: one link of it, and the link in the entry that is inserted or removed.
use Rattle.std.specs.Prelude.{◌≡◌, ℕ, ◌+◌, ◌⊎◌, List, [], ◌∷◌, ◌++◌}
use Rattle.adf_block.specs.Image.{block_sum, long}
use Rattle.adf_block.specs.declared.layout.TheConstants.{FIRST_SLOT, NEXT_IN_CHAIN}
use Rattle.adf_block.specs.declared.beside.TheConstants.{CHECKSUM}
use Rattle.adf_block.specs.Frame.{SameBut, AtLong}
use Rattle.ados_chain.specs.Chains.{LawfulChains, IsEntryBlock, InChains, slot_at, with_last, without}

-- the block of the link that follows these first entries of a chain: the last of them, or the directory if there are
-- none
abbrev pub link_block : ℕ → List ℕ → ℕ
link_block block [] = block
link_block block (key ∷ keys) = link_block key keys

-- the long of that link in its block: the slot's long i of the hash table, or next-in-chain
abbrev pub link_long : ℕ → List ℕ → ℕ
link_long i [] = i
link_long i (key ∷ keys) = link_long NEXT_IN_CHAIN keys

-- the bytes of long i of a block, and of the checksum of that block
abbrev pub AtSummed : ℕ → ℕ → ℕ → ℕ → Type 0
AtSummed block i b k = AtLong block i b k ⊎ AtLong block CHECKSUM b k

-- the bytes of long i of a block, of the next-in-chain long of a key, and of both checksums
abbrev pub AtLinks : ℕ → ℕ → ℕ → ℕ → ℕ → Type 0
AtLinks block i key b k = AtSummed block i b k ⊎ AtSummed key NEXT_IN_CHAIN b k

-- long i of the block is now `next`, the next-in-chain long of the key is 0, and both checksums are right; no other
-- byte changed
pub record Relinks (block i next key : ℕ) (old new : List ℕ) : Type 0 where
  pub rest : SameBut (AtLinks block i key) old new
  pub link : long new block i ≡ next
  pub link_sum : block_sum new block ≡ 0
  pub key_link : long new key NEXT_IN_CHAIN ≡ 0
  pub key_sum : block_sum new key ≡ 0

-- the directory has lawful chains, and the block may become an entry of it and is in none of them
pub record CanInsert (image : List ℕ) (dir key : ℕ) : Type 0 where
  pub chains : ℕ → List ℕ
  pub lawful : LawfulChains image dir chains
  pub entry : IsEntryBlock image dir key
  pub absent : ¬ InChains chains key

-- the directory has lawful chains, and the key is in one of them
pub record CanUnlink (image : List ℕ) (dir key : ℕ) : Type 0 where
  pub chains : ℕ → List ℕ
  pub lawful : LawfulChains image dir chains
  pub listed : InChains chains key

-- the key was appended to the chain of its slot
pub record InsertsLast (dir key : ℕ) (chains : ℕ → List ℕ) (old new : List ℕ) : Type 0 where
  pub relinks : Relinks (link_block dir (chains (slot_at old key))) (link_long (FIRST_SLOT + slot_at old key) (chains (slot_at old key))) key key old new
  pub lawful : LawfulChains new dir (with_last chains (slot_at old key) key)

-- the key was removed from the chain of its slot, where it followed the entries `front`
pub record Unlinks (dir key : ℕ) (chains : ℕ → List ℕ) (old new : List ℕ) : Type 0 where
  pub front : List ℕ
  pub back : List ℕ
  pub split : chains (slot_at old key) ≡ front ++ key ∷ back
  pub relinks : Relinks (link_block dir front) (link_long (FIRST_SLOT + slot_at old key) front) (long old key NEXT_IN_CHAIN) key old new
  pub lawful : LawfulChains new dir (without chains key)
