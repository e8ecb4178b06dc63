-- Splits at a separating byte.
use Rattle.adf_script.proofs.Common.{◌≡◌, ℕ, suc, ◌+◌, ◌<◌, ◌≤◌, Bool, true, false, cond, nat_lt, ◌⊎◌, inl, inr, List, [], ◌∷◌, ◌++◌, length, take, drop, Option, Some, None, MatchOption, refl, sym, ap, subst, ◌∙◌, arith, eq-eqb, not, ◌||◌, ◌==◌, position, position_or_len, ltb-true, ltb-false, eqb_tells, has_byte}

-- a test is true or false
pub true_or_false : (b : Bool) → (b ≡ true) ⊎ (b ≡ false)
true_or_false true = inl refl
true_or_false false = inr refl

pub or_false : (a b : Bool) → (a || b) ≡ false → (a ≡ false) × (b ≡ false)
or_false true b e = cc
or_false false b e = (refl, e)

pub true_is_false : {P : Type 0} (b : Bool) → b ≡ true → b ≡ false → P
true_is_false b is isn't = cc

-- a list with the separator has it
pub has_byte-split : (separator : ℕ) (front rest : List ℕ) → has_byte separator (front ++ separator ∷ rest) ≡ true
has_byte-split separator [] rest = ap (λ b. b || has_byte separator rest) (eq-eqb separator separator refl)
has_byte-split separator (x ∷ xs) rest = ap (λ b. (x == separator) || b) (has_byte-split separator xs rest) ∙ last (x == separator)
  where
    last : (b : Bool) → (b || true) ≡ true
    last true = refl
    last false = refl

-- a list is split in only one way
pub split_unique : (separator : ℕ) (a c b d : List ℕ) → has_byte separator a ≡ false → has_byte separator c ≡ false
    → a ++ separator ∷ b ≡ c ++ separator ∷ d → (a ≡ c) × (b ≡ d)
split_unique separator [] [] b d no_a no_c e = (refl, cc)
split_unique separator [] (y ∷ ys) b d no_a no_c e =
    let same : y ≡ separator = cc
    in true_is_false (y == separator) (eq-eqb y separator same) (or_false _ _ no_c).0
split_unique separator (x ∷ xs) [] b d no_a no_c e =
    let same : x ≡ separator = cc
    in true_is_false (x == separator) (eq-eqb x separator same) (or_false _ _ no_a).0
split_unique separator (x ∷ xs) (y ∷ ys) b d no_a no_c e =
    let heads : x ≡ y = cc
    in let tails : xs ++ separator ∷ b ≡ ys ++ separator ∷ d = cc
    in let rest = split_unique separator xs ys b d (or_false _ _ no_a).1 (or_false _ _ no_c).1 tails
    in ((λ i. heads i ∷ rest.0 i), rest.1)

module _ (separator : ℕ) where
  abbrev is_separator : ℕ → Bool
  is_separator = λ byte. byte == separator

  -- the position of the first separator
  abbrev place : List ℕ → ℕ
  place bytes = position_or_len is_separator bytes

  abbrev place_by : ℕ → Bool → ℕ
  place_by n b = cond (not b) (1 + n) 0

  abbrev Split : List ℕ → ℕ → Type 0
  Split bytes i = (i < length bytes) × (bytes ≡ take i bytes ++ separator ∷ drop (i + 1) bytes) × (has_byte separator (take i bytes) ≡ false)

  abbrev Placed : List ℕ → ℕ → Type 0
  Placed bytes i = (i < length bytes → Split bytes i) × (length bytes ≤ i → has_byte separator bytes ≡ false)

  next_split : (x : ℕ) (xs : List ℕ) (n i j : ℕ) → x == separator ≡ false → i ≡ suc n → j ≡ suc (n + 1) → xs ≡ take n xs ++ separator ∷ drop (n + 1) xs
      → x ∷ xs ≡ take i (x ∷ xs) ++ separator ∷ drop j (x ∷ xs)
  next_split x xs n i j other is_i is_j e =
      let P : ℕ → ℕ → Type 0 = λ k l. x ∷ xs ≡ take k (x ∷ xs) ++ separator ∷ drop l (x ∷ xs)
      in subst (λ k. P k j) (sym is_i) (subst (P (suc n)) (sym is_j) (ap (λ l. x ∷ l) e))

  next_none : (x : ℕ) (xs : List ℕ) (n i : ℕ) → x == separator ≡ false → i ≡ suc n → has_byte separator (take n xs) ≡ false → has_byte separator (take i (x ∷ xs)) ≡ false
  next_none x xs n i other is_i e =
      subst (λ k. has_byte separator (take k (x ∷ xs)) ≡ false) (sym is_i) (ap (λ b. b || has_byte separator (take n xs)) other ∙ e)

  pub placed : (bytes : List ℕ) → Placed bytes (place bytes)
  placed [] = ((λ h. absurd (omega (arith, h))), λ h. refl)
  placed (x ∷ xs) = elim (eqb_tells x separator) [
    | inl w ↦ subst (λ b. Placed (x ∷ xs) (place_by (place xs) b)) (sym w.0)
        ((λ h. (h, (λ i. w.1 i ∷ xs), refl)), λ h. absurd (omega (arith, h)))
    | inr w ↦
        let rest = placed xs
        in subst (λ b. Placed (x ∷ xs) (place_by (place xs) b)) (sym w.0) (
          (λ h.
              let here = rest.0 (omega (arith, h))
              in (h, next_split x xs (place xs) (1 + place xs) (1 + place xs + 1) w.0 (omega arith) (omega arith) here.1, next_none x xs (place xs) (1 + place xs) w.0 (omega arith) here.2)),
          λ h. ap (λ b. b || has_byte separator xs) w.0 ∙ rest.1 (omega (arith, h)),
        )
  ]

  -- the result of `position`
  pub split_at : (bytes : List ℕ) (found : Option ℕ) → found ≡ position is_separator bytes → MatchOption found (has_byte separator bytes ≡ false) (Split bytes)
  split_at bytes found e = subst (λ o. MatchOption o (has_byte separator bytes ≡ false) (Split bytes)) (sym e)
      (elim (true_or_false (nat_lt (place bytes) (length bytes))) [
        | inl w ↦ subst (λ b. MatchOption (cond b (Some (place bytes)) None) (has_byte separator bytes ≡ false) (Split bytes)) (sym w) ((placed bytes).0 (ltb-true _ _ w))
        | inr w ↦ subst (λ b. MatchOption (cond b (Some (place bytes)) None) (has_byte separator bytes ≡ false) (Split bytes)) (sym w) ((placed bytes).1 (ltb-false _ _ w))
      ])
