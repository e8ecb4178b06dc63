-- Changes of the bitmap.
use Rattle.std.specs.Prelude.{◌≡◌, ◌≢◌, ◌⊎◌, ℕ, ◌/◌, ◌<◌, List, Bool, false, Option, MatchOption}
use Rattle.adf_block.specs.declared.beside.TheConstants.{PAGE_CHECKSUM}
use Rattle.adf_block.specs.Image.{block_sum, has_free_bit}
use Rattle.adf_block.specs.Frame.{SameBut}
use Rattle.ados_map.specs.Bits.{is_unnamed}
use Rattle.ados_map.specs.Pages.{page_block, page_of, pages_of, map_long, HasBit, IsLowestFree, NoneFree}

-- the bytes that a change of block k's bit may write: the long with the bit, and the checksum of its bitmap block
abbrev pub MapPlace : List ℕ → ℕ → ℕ → ℕ → Type 0
MapPlace image k c i = (c ≡ page_block image (page_of k)) × ((i / 4 ≡ PAGE_CHECKSUM) ⊎ (i / 4 ≡ map_long k))

-- the bit of block k is set if `free`, else clear; the longs of its bitmap block add up to 0, whatever they did before;
-- every other bit and every other byte are unchanged
pub record BitChanged (old : List ℕ) (k : ℕ) (free : Bool) (new : List ℕ) : Type 0 where
  pub bit : has_free_bit new k ≡ free
  pub others : (j : ℕ) → HasBit old j → j ≢ k → has_free_bit new j ≡ has_free_bit old j
  pub sum : block_sum new (page_block old (page_of k)) ≡ 0
  pub rest : SameBut (MapPlace old k) old new

-- the lowest free block was marked used; or no block is free, and nothing changed
abbrev pub TakesFirst : List ℕ → Option ℕ → List ℕ → Type 0
TakesFirst old block new = MatchOption block (NoneFree old × (new ≡ old)) (λ b. IsLowestFree old b × BitChanged old b false new)

-- the bytes of all bitmap blocks
abbrev pub InPages : List ℕ → ℕ → ℕ → Type 0
InPages image c i = (p : ℕ) × (p < pages_of image) × (c ≡ page_block image p)

-- a bit is set exactly for a block of the volume that is not named; the checksum of each bitmap block is right;
-- no byte outside the bitmap blocks changed
pub record PagesRebuilt (old : List ℕ) (named : List Bool) (new : List ℕ) : Type 0 where
  pub marks : (k : ℕ) → HasBit old k → has_free_bit new k ≡ is_unnamed named k
  pub sums : (p : ℕ) → p < pages_of old → block_sum new (page_block old p) ≡ 0
  pub rest : SameBut (InPages old) old new
