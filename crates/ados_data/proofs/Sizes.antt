-- Numbers of blocks and bytes.
use Rattle.ados_data.proofs.Common.{◌≡◌, ◌≢◌, ℕ, ◌+◌, ◌-◌, ◌*◌, ◌/◌, ◌%◌, ◌<◌, ◌≤◌, min, arith, mod-lt, Format, Ofs, Ffs, block_cost, data_size, data_start, data_count, extension_count}

-- the bytes after byte `at` in its data block
pub same_block : (format : Format) (at j : ℕ) → at % data_size format + j < data_size format → ((at + j) / data_size format ≡ at / data_size format) × ((at + j) % data_size format ≡ at % data_size format + j)
same_block format at j h = grind arith

-- a byte of a file is in one of its data blocks
pub in_count : (format : Format) (k size : ℕ) → k < size → k / data_size format < data_count format size
in_count format k size h = grind arith

-- the pointer of a data block is in one of the pointer blocks
pub in_extensions : (i d : ℕ) → i < d → i / 72 ≤ extension_count d
in_extensions i d h = omega arith

-- the header bytes and the data bytes of a data block are 512
pub whole_block : (format : Format) → data_start format + data_size format ≡ 512
whole_block format = grind arith

pub few_bytes : (format : Format) → (0 < data_size format) × (data_size format ≤ 512)
few_bytes format = grind arith

-- the pointer for the next byte is the first of the next pointer block
pub next_holder : (format : Format) (at part : ℕ) → 0 < part → at % data_size format + part ≤ data_size format → (at + part) % (72 * data_size format) ≡ 0 → (at + part) / data_size format / 72 ≡ at / data_size format / 72 + 1
next_holder format at part h l e = grind arith

-- the pointer for the next byte is in the same pointer block
pub same_holder : (format : Format) (at part : ℕ) → at % data_size format + part ≤ data_size format → (at + part) % (72 * data_size format) ≢ 0 → (at + part) / data_size format / 72 ≡ at / data_size format / 72
same_holder format at part l e = grind arith

-- a part of a walk: the rest of a data block, or the rest of the wanted bytes
pub part_bounds : (room at done count part : ℕ) → 0 < room → done < count → part ≡ min (room - at % room) (count - done) → (0 < part) × (at % room + part ≤ room) × (done + part ≤ count)
part_bounds room at done count part h l e =
    let small : at % room < room = mod-lt at h in
    (omega arith, omega arith, omega arith)

-- one more data block, for a size within it
pub one_more_block : (format : Format) (d size : ℕ) → data_size format * d < size → size ≤ data_size format * (d + 1) → data_count format size ≡ d + 1
one_more_block format d size l m = grind arith

-- a byte before the end of d full blocks
pub below_count : (format : Format) (d k : ℕ) → k < data_size format * d → k / data_size format < d
below_count format d k l = grind arith

-- a byte in the block after them
pub at_count : (format : Format) (d k : ℕ) → data_size format * d ≤ k → k < data_size format * (d + 1) → k / data_size format ≡ d
at_count format d k l m = grind arith

-- a byte of a file is in its block, after the block's header
pub in_block : (format : Format) (k : ℕ) → data_start format + k % data_size format < 512
in_block format k = grind arith

pub behind_start : (format : Format) (k : ℕ) → format ≡ Ofs → 24 ≤ data_start format + k % data_size format
behind_start format k e = grind arith

-- bytes of one data block before a part, and after it
pub in_front : (format : Format) (at k : ℕ) → k < at → k / data_size format ≡ at / data_size format → k % data_size format < at % data_size format
in_front format at k l e = grind arith

pub behind_part : (format : Format) (at part k : ℕ) → at + part ≤ k → k / data_size format ≡ at / data_size format → at % data_size format + part ≤ k % data_size format
behind_part format at part k l e = grind arith

-- a size that ends within a data block, and a larger one within the same block
pub filled_size : (format : Format) (old part d : ℕ) → d ≡ data_count format old → old % data_size format ≢ 0 → old % data_size format + part ≤ data_size format →
    (0 < d) × (d - 1 ≡ old / data_size format) × (data_count format (old + part) ≡ d) × (format ≡ Ofs → d ≡ (old + part + 487) / 488) × (format ≡ Ofs → 488 * (d - 1) ≤ old)
filled_size Ofs old part d e n l = (omega arith, omega arith, omega arith, (λ t. omega arith), (λ t. omega arith))
filled_size Ffs old part d e n l = (omega arith, omega arith, omega arith, (λ t. cc), (λ t. cc))

-- a byte after the old end, in the same data block
pub filled_place : (format : Format) (old part k : ℕ) → old ≤ k → k < old + part → old % data_size format + part ≤ data_size format → (k / data_size format ≡ old / data_size format) × (k % data_size format ≡ old % data_size format + (k - old))
filled_place format old part k a b l = grind arith

-- the cost of one more data block
pub one_more_cost : (format : Format) (d size : ℕ) → data_size format * d < size → size ≤ data_size format * (d + 1) → block_cost format size ≡ block_cost format (data_size format * d) + 1 + (d / 72 - (d - 1) / 72)
one_more_cost format d size l m = grind arith

-- a smaller file has at most as many blocks
pub fewer_blocks : (format : Format) (a b : ℕ) → a ≤ b → data_count format a ≤ data_count format b
fewer_blocks format a b l = grind arith

pub some_blocks : (format : Format) (a : ℕ) → 0 < a → 0 < data_count format a
some_blocks format a l = grind arith

-- an OFS file's size ends in its last data block
pub ofs_count : (format : Format) (d size : ℕ) → d ≡ data_count format size → format ≡ Ofs → (d ≡ (size + 487) / 488) × (488 * (d - 1) ≤ size)
ofs_count format d size e t = grind arith

-- a size beyond this many blocks needs more
pub more_blocks : (format : Format) (d size : ℕ) → data_size format * d < size → d < data_count format size
more_blocks format d size l = grind arith

-- the rest of the last data block, or of a larger size
pub rest_covered : (format : Format) (old size part : ℕ) → old ≤ size → part ≡ min (data_size format - old % data_size format) (size - old) → (part ≤ 512) × (min size (data_size format * data_count format old) ≤ old + part)
rest_covered format old size part l e = grind arith
