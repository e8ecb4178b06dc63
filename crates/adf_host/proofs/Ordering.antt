-- The places of items, in another order.
use Rattle.std.proofs.Common.{◌≡◌, ℕ, zero, suc, ◌+◌, List, [], ◌∷◌, ◌++◌, length, map, Option, refl, sym, ap, ◌∙◌, subst, arith}
use Rattle.std.specs.List.{range_with_len}
use Rattle.std.specs.List.Sorted.{IsPermutation}
use Rattle.std.proofs.lemmas.List.FromFn.{length-range_with_len, map-range_with_len_more}
use Rattle.std.proofs.lemmas.List.Sorted.{IsPermutation-map, length_permutation}

same : (a n : ℕ) → map (λ (k : ℕ). k) (range_with_len a n) ≡ range_with_len a n
same a zero = refl
same a (suc n) = ap (λ (ks : List ℕ). a ∷ ks) (same (a + 1) n)

range_more : (n : ℕ) → range_with_len 0 (n + 1) ≡ range_with_len 0 n ++ n ∷ []
range_more n = sym (same 0 (n + 1)) ∙ map-range_with_len_more (λ (k : ℕ). k) 0 n n (omega arith) ∙ ap (λ (ks : List ℕ). ks ++ n ∷ []) (same 0 n)

second_more : (xs : List (Option ℕ × ℕ)) (x : Option ℕ × ℕ) → map (λ pair. pair.1) (xs ++ x ∷ []) ≡ map (λ pair. pair.1) xs ++ x.1 ∷ []
second_more [] x = refl
second_more (y ∷ xs) x = ap (λ (ks : List ℕ). y.1 ∷ ks) (second_more xs x)

-- one more place
pub numbered_more : (xs ys : List (Option ℕ × ℕ)) (number : Option ℕ) (place : ℕ) → ys ≡ xs ++ (number, place) ∷ [] → map (λ pair. pair.1) xs ≡ range_with_len 0 place → map (λ pair. pair.1) ys ≡ range_with_len 0 (place + 1)
numbered_more xs ys number place more so_far =
    ap (λ (ps : List (Option ℕ × ℕ)). map (λ pair. pair.1) ps) more ∙ second_more xs (number, place) ∙ ap (λ (ks : List ℕ). ks ++ place ∷ []) so_far ∙ sym (range_more place)

-- the places of sorted pairs are all places
pub each_once : (pairs sorted : List (Option ℕ × ℕ)) (order : List ℕ) (n : ℕ) → map (λ pair. pair.1) pairs ≡ range_with_len 0 n → IsPermutation pairs sorted → order ≡ map (λ pair. pair.1) sorted
    → IsPermutation (range_with_len 0 n) order
each_once pairs sorted order n are moved is =
    subst (λ (ks : List ℕ). IsPermutation ks order) are (subst (IsPermutation (map (λ pair. pair.1) pairs)) (sym is) (IsPermutation-map (λ pair. pair.1) pairs sorted moved))

pub each_count : (order : List ℕ) (n : ℕ) → IsPermutation (range_with_len 0 n) order → length order ≡ n
each_count order n each = length_permutation (range_with_len 0 n) order each ∙ length-range_with_len 0 n
