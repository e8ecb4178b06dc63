-- Numbers of each block, side by side.
use Rattle.ados_faults.proofs.Common.{◌≤◌, subst, length_push, pointers_of, ◌≡◌, ℕ, ◌+◌, ◌<◌, inl, inr, List, [], ◌∷◌, ◌++◌, length, get_or, slice_index, ◌∙◌, ap, sym, arith, cases_lt, get_or_append_left, get_or_default, get_or_push, block_count, AreOfEach}
use Rattle.ados_faults.proofs.ByHeaders.{pointers_at_most}

-- the list has the numbers of the first blocks, as many as a number says
pub record AreOfFirst (number : ℕ → ℕ) (n : ℕ) (numbers : List ℕ) : Type 0 where
  pub size : length numbers ≡ n
  pub each : (k : ℕ) → k < n → slice_index numbers k ≡ number k

-- the number of one more block
pub of_each_more : (number : ℕ → ℕ) (n : ℕ) (numbers later : List ℕ) (new : ℕ) → AreOfFirst number n numbers → later ≡ numbers ++ new ∷ [] → new ≡ number n → AreOfFirst number (n + 1) later
of_each_more number n numbers later new a more is =
    subst (AreOfFirst number (n + 1)) (sym more) (record { size = length_push numbers new ∙ ap (λ (k : ℕ). k + 1) a.size; each = go })
  where
    go : (k : ℕ) → k < n + 1 → slice_index (numbers ++ new ∷ []) k ≡ number k
    go k l = elim (cases_lt k (length numbers)) [
      | inl before ↦ get_or_append_left numbers (new ∷ []) 0 k before ∙ a.each k (omega (arith, before, a.size))
      | inr past ↦ let here : length numbers ≡ k = omega (arith, past, l, a.size) in get_or_push numbers new 0 k here ∙ is ∙ ap number (sym a.size ∙ here)
    ]

-- those of all blocks
pub of_each_all : (image : List ℕ) (number : ℕ → ℕ) (n : ℕ) (numbers : List ℕ) → AreOfFirst number n numbers → n ≡ block_count image → AreOfEach image number numbers
of_each_all image number n numbers a all = record { size = a.size ∙ all; each = λ block l. a.each block (omega (arith, l, all)) }

-- the number of a block, as it is read
pub number_read : (image : List ℕ) (number : ℕ → ℕ) (numbers : List ℕ) → AreOfEach image number numbers → (block x : ℕ) → block < block_count image → x ≡ get_or numbers block x → x ≡ number block
number_read image number numbers a block x l e = e ∙ get_or_default numbers block x 0 (omega (arith, l, a.size)) ∙ a.each block l

-- the number of data blocks in the pointers of a block, as it is read
pub count_read : (image counts : List ℕ) → AreOfEach image (λ block. length (pointers_of image block)) counts → (block x : ℕ) → block < block_count image → x ≡ get_or counts block x → (x ≡ length (pointers_of image block)) × (x ≤ 72)
count_read image counts a block x l e = let is : x ≡ length (pointers_of image block) = number_read image _ counts a block x l e in (is, omega (arith, is, pointers_at_most image block))
