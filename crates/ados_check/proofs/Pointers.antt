-- The pointers of a block, one more at a time.
use Rattle.ados_check.proofs.Common.{◌≡◌, ℕ, zero, suc, ◌<◌, ◌≤◌, List, [], ◌∷◌, length, slice_index, refl, ap, ◌∙◌, arith, le-leb, get_or_append_left, length_push, long, pointer, pointer_count, first_pointers, pointers_of}

-- after a list
pub pointers_are : (image : List ℕ) (block : ℕ) → pointer_count image block ≤ 72 → pointers_of image block ≡ first_pointers image block (pointer_count image block)
pointers_are image block few = rw (le-leb (pointer_count image block) 72 few) refl

-- the first of several pointers
first_of : (image : List ℕ) (block n : ℕ) → slice_index (first_pointers image block (suc n)) 0 ≡ pointer image block 0
first_of image block zero = refl
first_of image block (suc n) = get_or_append_left (first_pointers image block (suc n)) (pointer image block (suc n) ∷ []) 0 0 (some n) ∙ first_of image block n
  where
    some : (n : ℕ) → 0 < length (first_pointers image block (suc n))
    some n = omega (arith, length_push (first_pointers image block n) (pointer image block n))

pub first_is : (image : List ℕ) (block : ℕ) → 0 < pointer_count image block → pointer_count image block ≤ 72 → slice_index (pointers_of image block) 0 ≡ long image block 77
first_is image block more few = ap (λ (xs : List ℕ). slice_index xs 0) (pointers_are image block few) ∙ go (pointer_count image block) more
  where
    go : (n : ℕ) → 0 < n → slice_index (first_pointers image block n) 0 ≡ long image block 77
    go zero l = absurd (omega (arith, l))
    go (suc n) l = first_of image block n
