-- A file with enough blocks has a size below 2^32.
use Rattle.ados_data.proofs.Common.{◌≡◌, ◌≢◌, ℕ, ◌+◌, ◌-◌, ◌/◌, ◌^◌, ◌<◌, ◌≤◌, List, Bool, cond, length, slice_index, ◌∙◌, subst, arith, get_or_default, Format, block_count, has_free_bit, format_of, free_bit_count, total-bound, block_cost, data_count, LawfulFile, contents, data_blocks, HasFree}
use Rattle.std.proofs.lemmas.Bool.Decides.{Decides-eqb}
use Rattle.std.proofs.lemmas.Map.Made.{IsDistinct-from_AllPairs}
use Rattle.std.proofs.lemmas.Map.Steps.{length-le_from_distinct_below}
use Rattle.ados_model.proofs.KeyLists.{below_bound}

-- a list of numbers below n without duplicates has at most n elements
few_once : (xs : List ℕ) (n : ℕ) → ((i : ℕ) → i < length xs → slice_index xs i < n) → ((i j : ℕ) → i < j → j < length xs → slice_index xs i ≢ slice_index xs j) → length xs ≤ n
few_once xs n small once =
    length-le_from_distinct_below xs n
    (IsDistinct-from_AllPairs Decides-eqb xs (λ i j d l m e. once i j l m (get_or_default xs i 0 d (omega (arith, l, m)) ∙ e ∙ get_or_default xs j d 0 m)))
    (λ q any. below_bound xs n q small any)

-- at most all blocks after the boot blocks are marked free
marked_bound : (image : List ℕ) → free_bit_count image ≤ block_count image - 2
marked_bound image = omega (arith, total-bound (λ k. cond (has_free_bit image (k + 2)) 1 0) 1 (block_count image - 2) (λ k. at_most (has_free_bit image (k + 2))))
  where
    at_most : (v : Bool) → cond v 1 0 ≤ 1
    at_most v = grind arith

-- this many blocks hold less than 4 GiB
size_bound : (format : Format) (size count m n : ℕ) → n ≤ 101602 → m ≤ n - 2 → count ≤ n → block_cost format size ≤ m + (count + ((count + 71) / 72 - 1)) → size < 2 ^ 32
size_bound format size count m n a b d l = grind arith

-- the blocks of a volume hold fewer than 2^32 bytes
pub size_fits : (image : List ℕ) (file size : ℕ) → block_count image ≤ 101602 → LawfulFile image file → HasFree image file size → size < 2 ^ 32
size_fits image file size small lawful free =
    let count : length (data_blocks image file) ≡ data_count (format_of image) (length (contents image file)) = lawful.data_fits in
    size_bound (format_of image) size (data_count (format_of image) (length (contents image file))) (free_bit_count image) (block_count image) small (marked_bound image)
    (subst (λ (n : ℕ). n ≤ block_count image) count (few_once (data_blocks image file) (block_count image) (λ i l. (lawful.places.data_inside i l).1) lawful.places.data_once))
    free
