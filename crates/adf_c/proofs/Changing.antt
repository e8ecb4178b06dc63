-- The blocks of an image that differ from a copy, block by block.
use Rattle.std.proofs.Common.{◌≡◌, ℕ, ◌+◌, ◌-◌, ◌*◌, Bool, true, false, cond, List, [], ◌∷◌, ◌++◌, take, drop, Option, Some, Result, Ok, Err, inr, arith, refl, sym, ap, ap₂, ◌∙◌, subst}
use Rattle.std.specs.Prelude.{filter, map, MatchResult}
use Rattle.std.specs.List.{range_with_len}
use Rattle.std.proofs.lemmas.List.FromFn.{filter_of_map_range_with_len_more}
use Rattle.adf_block.specs.Image.{bytes_at}
use Rattle.adf_c.specs.Changed.{TakesOver, RefusesTaking, CopiesChanged, RefusesChanged}
use Rattle.adf_c.specs.declared.desk.Desk.{Desk}
use Rattle.adf_c.specs.declared.values.refusal.Refusal.{Refusal}

-- the bytes from a block's position are the block's
pub block_of : (copy : List ℕ) (block : ℕ) → take (block * 512 + 512 - block * 512) (drop (block * 512) copy) ≡ bytes_at copy block 0 512
unfolding bytes_at
block_of copy block =
    let count : block * 512 + 512 - block * 512 ≡ 512 = omega arith in
    let at : block * 512 ≡ 512 * block + 0 = omega arith in
    ap₂ (λ (n k : ℕ). take n (drop k copy)) count at

-- ---- the numbers of the first blocks, and of one more
as_they_are : (xs : List ℕ) → map (λ k. k) xs ≡ xs
as_they_are [] = refl
as_they_are (x ∷ xs) = ap (λ l. x ∷ l) (as_they_are xs)

one_more : (p : ℕ → Bool) (n : ℕ) → filter p (range_with_len 0 (n + 1)) ≡ filter p (range_with_len 0 n) ++ cond (p n) (n ∷ []) []
one_more p n = sym (ap (filter p) (as_they_are (range_with_len 0 (n + 1)))) ∙ filter_of_map_range_with_len_more p (λ k. k) 0 n n (omega arith)
    ∙ ap (λ l. filter p l ++ cond (p n) (n ∷ []) []) (as_they_are (range_with_len 0 n))

nothing_more : (xs : List ℕ) → xs ++ [] ≡ xs
nothing_more [] = refl
nothing_more (x ∷ xs) = ap (λ l. x ∷ l) (nothing_more xs)

pub one_that_differs : (p : ℕ → Bool) (n : ℕ) (old new : List ℕ) → old ≡ filter p (range_with_len 0 n) → p n ≡ true → new ≡ old ++ n ∷ [] → new ≡ filter p (range_with_len 0 (n + 1))
one_that_differs p n old new so_far d put = put ∙ ap (λ l. l ++ n ∷ []) so_far ∙ ap (λ b. filter p (range_with_len 0 n) ++ cond b (n ∷ []) []) (sym d) ∙ sym (one_more p n)

pub one_that_is_same : (p : ℕ → Bool) (n : ℕ) (old : List ℕ) → old ≡ filter p (range_with_len 0 n) → p n ≡ false → old ≡ filter p (range_with_len 0 (n + 1))
one_that_is_same p n old so_far s = so_far ∙ sym (nothing_more (filter p (range_with_len 0 n))) ∙ ap (λ b. filter p (range_with_len 0 n) ++ cond b (n ∷ []) []) (sym s) ∙ sym (one_more p n)

-- the listed blocks are those of the handle's image
pub tells : (r : Result ℕ Refusal) (held : Option Desk) (desk : Desk) (image copy_before copy_after numbers_before numbers_after : List ℕ) → held ≡ Some desk → image ≡ desk.handler.image
    → MatchResult r (λ count. TakesOver image copy_before copy_after numbers_before numbers_after count)
    (λ refusal. RefusesTaking image copy_before numbers_before refusal × (copy_after ≡ copy_before) × (numbers_after ≡ numbers_before))
    → MatchResult r (λ count. CopiesChanged held copy_before copy_after numbers_before numbers_after count)
    (λ refusal. RefusesChanged held copy_before numbers_before refusal × (copy_after ≡ copy_before) × (numbers_after ≡ numbers_before))
tells (Ok count) held desk image copy_before copy_after numbers_before numbers_after holds is told =
    (desk, holds, subst (λ i. TakesOver i copy_before copy_after numbers_before numbers_after count) is told)
tells (Err refusal) held desk image copy_before copy_after numbers_before numbers_after holds is why =
    (inr (desk, holds, subst (λ i. RefusesTaking i copy_before numbers_before refusal) is why.0), why.1, why.2)
