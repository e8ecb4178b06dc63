-- An image is a list of bytes: n blocks of 512 bytes. A block has 128 big-endian longs, and its fields are longs and
-- texts at the positions of `src/layout.rt`.
use Rattle.std.specs.Prelude.{◌≡◌, ℕ, zero, suc, ◌+◌, ◌-◌, ◌*◌, ◌/◌, ◌%◌, ◌^◌, ◌<◌, ◌≤◌, List, take, drop, length}
use Rattle.std.specs.Prelude.{slice_index, bit_and, Bool, not, ◌==◌, [], ◌∷◌}
use Rattle.byteorder.specs.Endian.{big_number}
use Rattle.adf_block.specs.declared.layout.TheConstants.{BOOT_BLOCKS, BLOCK_BYTES, BLOCK_LONGS, FIRST_PAGE}
use Rattle.adf_block.specs.declared.layout.TheConstants.{FIRST_MAP_LONG, LONG_BITS, PAGE_BITS}

-- the number of blocks
abbrev pub block_count : List ℕ → ℕ
block_count image = length image / BLOCK_BYTES

-- the block number of the root in a volume of n blocks
abbrev pub root_key : ℕ → ℕ
root_key n = (n + 1) / 2

-- the number of bitmap blocks: each covers 4,064 blocks, and the two boot blocks have no bit
abbrev pub page_count : ℕ → ℕ
page_count n = (n - BOOT_BLOCKS + (PAGE_BITS - 1)) / PAGE_BITS

-- b is a block of the volume after the boot blocks
abbrev pub IsInside : ℕ → ℕ → Type 0
IsInside n b = (BOOT_BLOCKS ≤ b) × (b < n)

-- byte i of block b
unfoldable pub byte_at : List ℕ → ℕ → ℕ → ℕ
byte_at image b i = slice_index image (BLOCK_BYTES * b + i)

-- n bytes of block b, from byte i
unfoldable pub bytes_at : List ℕ → ℕ → ℕ → ℕ → List ℕ
bytes_at image b i n = take n (drop (BLOCK_BYTES * b + i) image)

-- long i of block b, big-endian
unfoldable pub long : List ℕ → ℕ → ℕ → ℕ
long image b i = big_number 4 (drop (BLOCK_BYTES * b + 4 * i) image)

-- f 0 + .. + f (n - 1)
abbrev pub total : (ℕ → ℕ) → ℕ → ℕ
total f zero = 0
total f (suc n) = total f n + f n

-- the sum of the 128 longs of block b, modulo 2^32
unfoldable pub block_sum : List ℕ → ℕ → ℕ
block_sum image b = total (long image b) BLOCK_LONGS % 2 ^ 32

-- whether the bit of block b is set in the bitmap blocks that the root names; a set bit means a free block
unfoldable pub has_free_bit : List ℕ → ℕ → Bool
has_free_bit image b =
    let page = long image (root_key (block_count image)) (FIRST_PAGE + (b - BOOT_BLOCKS) / PAGE_BITS) in
    not (bit_and (long image page (FIRST_MAP_LONG + (b - BOOT_BLOCKS) % PAGE_BITS / LONG_BITS))
    (2 ^ ((b - BOOT_BLOCKS) % LONG_BITS)) == 0)

-- the list that starts at `first` and follows long `link` of each block is exactly these blocks; a link of 0 ends it
abbrev pub Chained : List ℕ → ℕ → ℕ → List ℕ → Type 0
Chained image link first [] = first ≡ 0
Chained image link first (block ∷ blocks) = (first ≡ block) × Chained image link (long image block link) blocks

-- a text of a block, as a fact: byte i is the length of the text, and the text follows it
pub record HasText (image : List ℕ) (block i : ℕ) (text : List ℕ) : Type 0 where
  pub counted : byte_at image block i ≡ length text
  pub follows : bytes_at image block (i + 1) (length text) ≡ text
