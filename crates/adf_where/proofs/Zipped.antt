-- Two lists, place by place.
use Rattle.adf_where.proofs.Common.{◌≡◌, ℕ, zero, suc, ◌+◌, ◌<◌, List, [], ◌∷◌, ◌++◌, length, get_or, take, sym, ap, ◌∙◌, subst, arith, AllZip, take_more, all_zipped_more}

-- what holds of two lists, place by place, holds at one place
pub zipped_at : {A B : Type 0} (R : A → B → Type 0) (xs : List A) (ys : List B) (i : ℕ) (d : A) (e : B) → AllZip R xs ys → i < length xs → R (get_or xs i d) (get_or ys i e)
zipped_at R [] ys i d e z l = absurd (omega (arith, l))
zipped_at R (x ∷ xs) [] i d e z l = absurd z
zipped_at R (x ∷ xs) (y ∷ ys) zero d e z l = z.0
zipped_at R (x ∷ xs) (y ∷ ys) (suc i) d e z l = zipped_at R xs ys i d e z.1 (omega (arith, l))

-- one more element
pub zipped_more : {A B : Type 0} (R : A → B → Type 0) (ks : List A) (n : ℕ) (done : List B) (a : A) (b : B) → n < length ks → a ≡ get_or ks n a → AllZip R (take n ks) done → R a b
    → AllZip R (take (n + 1) ks) (done ++ b ∷ [])
zipped_more R ks n done a b inside is before here =
    subst (λ (l : List _). AllZip R l (done ++ b ∷ [])) (sym (take_more ks n a inside ∙ ap (λ x. take n ks ++ x ∷ []) (sym is)))
    (all_zipped_more R (take n ks) done a b before here)
