-- What is counted at one place.
use Rattle.ados_validate.proofs.Common.{ℕ, ◌+◌, List, ◌&&◌, not, bit_xor, count_ones, if◌then◌else◌, has_free_bit, long}

-- the number of bits of a long of a bitmap block that differ
abbrev pub bits_at : List ℕ → List ℕ → ℕ → ℕ → ℕ
bits_at old new page i = count_ones (bit_xor (long old page (i + 1)) (long new page (i + 1)))

-- 1 for a block that is marked free in one image only
abbrev pub free_at : List ℕ → List ℕ → ℕ → ℕ
free_at image other k = if has_free_bit image (k + 2) && not (has_free_bit other (k + 2)) then 1 else 0
