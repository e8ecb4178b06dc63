-- The results of a function for some positions and for those after them.
use Rattle.std.proofs.Common.{◌≡◌, ℕ, zero, suc, ◌∷◌, length, ◌+◌, ◌-◌, ◌<◌, ◌≤◌, List, [], ◌++◌, get_or, ap₂, sym, ◌∙◌, subst, length-append, refl, inl, inr, ◌⊎◌, arith}
use Rattle.adf_archive.proofs.Common.{get_or_append_left, get_or-append_right, cases_lt, Shared, FnReturns, GivesFrom}

module _ {F R : Type 0} (g : Shared F (ℕ × Unit {0}) R) (f : F) where
  pub gives_none : (start : ℕ) → GivesFrom g f start 0 []
  gives_none start = (refl, λ i d l. absurd (omega (arith, l)))

  pub gives_more : (start n m : ℕ) (a b : List R) → GivesFrom g f start n a → GivesFrom g f (start + n) m b → GivesFrom g f start (n + m) (a ++ b)
  gives_more start n m a b first rest = (length-append a b ∙ ap₂ (λ (x y : ℕ). x + y) first.0 rest.0, λ i d l. go i d l (cases_lt i n))
    where
      go : (i : ℕ) (d : R) → i < n + m → (i < n) ⊎ (n ≤ i) → FnReturns g f (start + i, tt) (get_or (a ++ b) i d)
      go i d l (inl before) = subst (λ (r : R). FnReturns g f (start + i, tt) r) (sym (get_or_append_left a b d i (omega (arith, before, first.0)))) (first.1 i d before)
      go i d l (inr behind) =
          subst (λ (r : R). FnReturns g f (start + i, tt) r) (sym (get_or-append_right a b n i d first.0 behind))
          (subst (λ (k : ℕ). FnReturns g f (k, tt) (get_or b (i - n) d)) (omega (arith, behind)) (rest.1 (i - n) d (omega (arith, l, behind))))

  gives_one : (start : ℕ) (r : R) → FnReturns g f (start, tt) r → GivesFrom g f start 1 (r ∷ [])
  gives_one start r is = (refl, one)
    where
      one : (i : ℕ) (d : R) → i < 1 → FnReturns g f (start + i, tt) (get_or (r ∷ []) i d)
      one zero d l = subst (λ (k : ℕ). FnReturns g f (k, tt) r) (omega arith) is
      one (suc i) d l = absurd (omega (arith, l))

  -- one more result
  pub gives_next : (start n : ℕ) (a : List R) (r : R) → GivesFrom g f start n a → FnReturns g f (start + n, tt) r → GivesFrom g f start (n + 1) (a ++ r ∷ [])
  gives_next start n a r first is = gives_more start n 1 a (r ∷ []) first (gives_one (start + n) r is)

  -- the results of two parts, as those of the whole
  pub gives_both : (start low high count : ℕ) (a b all : List R) → low + high ≡ count → all ≡ a ++ b → GivesFrom g f start low a → GivesFrom g f (start + low) high b → GivesFrom g f start count all
  gives_both start low high count a b all sum is first rest =
      subst (λ (n : ℕ). GivesFrom g f start n all) sum (subst (GivesFrom g f start (low + high)) (sym is) (gives_more start low high a b first rest))
