-- The bitmap blocks of an image, and the bits in them. In names a bitmap block is a page.
use Rattle.std.specs.Prelude.{◌≡◌, ◌≢◌, ℕ, ◌+◌, ◌-◌, ◌*◌, ◌/◌, ◌%◌, ◌<◌, ◌≤◌, List, false, true}
use Rattle.adf_block.specs.declared.layout.TheConstants.{BOOT_BLOCKS, FIRST_PAGE, FIRST_MAP_LONG, LONG_BITS, PAGE_BITS}
use Rattle.adf_block.specs.Image.{long, block_count, root_key, page_count, IsInside, has_free_bit}

-- the number of bitmap blocks
abbrev pub pages_of : List ℕ → ℕ
pages_of image = page_count (block_count image)

-- the block number of bitmap block p, from the root
abbrev pub page_block : List ℕ → ℕ → ℕ
page_block image p = long image (root_key (block_count image)) (FIRST_PAGE + p)

-- the root names the block as a bitmap block
abbrev pub IsPage : List ℕ → ℕ → Type 0
IsPage image block = (p : ℕ) × (p < pages_of image) × (page_block image p ≡ block)

-- the bitmap blocks are after the boot blocks, no two the same and none the root
pub record LawfulPages (image : List ℕ) : Type 0 where
  pub inside : (p : ℕ) → p < pages_of image → IsInside (block_count image) (page_block image p)
  pub apart : (p q : ℕ) → p < pages_of image → q < pages_of image → page_block image p ≡ page_block image q → p ≡ q
  pub beside_root : (p : ℕ) → p < pages_of image → page_block image p ≢ root_key (block_count image)

-- the index of the bitmap block with the bit of block k
abbrev pub page_of : ℕ → ℕ
page_of k = (k - BOOT_BLOCKS) / PAGE_BITS

-- the long in that bitmap block with the bit of block k
abbrev pub map_long : ℕ → ℕ
map_long k = FIRST_MAP_LONG + (k - BOOT_BLOCKS) % PAGE_BITS / LONG_BITS

-- some bitmap block has a bit for k; k may be past the volume's end
abbrev pub HasBit : List ℕ → ℕ → Type 0
HasBit image k = (BOOT_BLOCKS ≤ k) × (k < BOOT_BLOCKS + PAGE_BITS * pages_of image)

-- no block of the volume is marked free
abbrev pub NoneFree : List ℕ → Type 0
NoneFree image = (k : ℕ) → IsInside (block_count image) k → has_free_bit image k ≡ false

-- no block of the volume below `from` is marked free
abbrev pub NoneFreeBelow : List ℕ → ℕ → Type 0
NoneFreeBelow image from = (k : ℕ) → IsInside (block_count image) k → k < from → has_free_bit image k ≡ false

-- k is the lowest block of the volume that is marked free
pub record IsLowestFree (image : List ℕ) (k : ℕ) : Type 0 where
  pub inside : IsInside (block_count image) k
  pub free : has_free_bit image k ≡ true
  pub lowest : (j : ℕ) → BOOT_BLOCKS ≤ j → j < k → has_free_bit image j ≡ false
