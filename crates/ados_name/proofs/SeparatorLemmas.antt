-- The result of a search for a byte, in terms of the list.
use Rattle.ados_name.proofs.Common.{◌≡◌, ℕ, ◌+◌, ◌-◌, ◌<◌, ◌≤◌, zero-le, ◌==◌, Bool, false, ◌||◌, not, List, [], ◌∷◌, length, take, drop, get_or, Option, None, Some, is_some, unwrap_or, sym, ap, ◌∙◌, arith, list_any, before_first, after_first, position_or_len, suffix_len, drop_of_length-le, take-length, length-drop, false_from_ne_true, not_from_false, not_from_true, All-from_get_or, list_any_none, list_any_at, position_or_len_is, suffix_len_is, IsFirstByte, IsLastByte, is_in, is_separator}
use Rattle.std.proofs.Math.Bool.{or-false}

-- the position after the found byte, or 0
abbrev pub behind : Option ℕ → ℕ
behind None = 0
behind (Some k) = k + 1

drop-whole : (n : ℕ) (xs : List ℕ) → take (length xs - n) (drop n xs) ≡ drop n xs
drop-whole n xs = ap (λ m. take m (drop n xs)) (sym (length-drop n xs)) ∙ take-length (drop n xs)

module _ (p : ℕ → Bool) (xs : List ℕ) where
  pub list_any-found : (r : Option ℕ) → IsFirstByte p xs r → list_any p xs ≡ is_some r
  list_any-found None none =
      list_any_none p xs (All-from_get_or (λ x. p x ≡ false) xs 0 (λ k inside. false_from_ne_true _ (none k zero-le inside)))
  list_any-found (Some k) found = list_any_at p xs k 0 found.0.high found.1

  pub position-found : (r : Option ℕ) → IsFirstByte p xs r → position_or_len p xs ≡ unwrap_or r (length xs)
  position-found None none =
      position_or_len_is p xs (length xs) 0 (omega arith) (λ k inside. false_from_ne_true _ (none k zero-le inside)) (λ past. absurd (omega arith))
  position-found (Some k) found =
      let inside = found.0.high in
      position_or_len_is p xs k 0 (omega arith) (λ j below. false_from_ne_true _ (found.0.before j zero-le below)) (λ _. found.1)

  pub before-found : (k : ℕ) → IsFirstByte p xs (Some k) → take k xs ≡ before_first p xs
  before-found k found = ap (λ n. take n xs) (sym (position-found (Some k) found))

  pub after-found : (k : ℕ) → IsFirstByte p xs (Some k) → take (length xs - (k + 1)) (drop (k + 1) xs) ≡ after_first p xs
  after-found k found = rw (position-found (Some k) found) (drop-whole (k + 1) xs)

  pub before-none : IsFirstByte p xs None → xs ≡ before_first p xs
  before-none none = rw (position-found None none) (sym (take-length xs))

  pub after-none : IsFirstByte p xs None → [] ≡ after_first p xs
  after-none none = rw (position-found None none) (sym (drop_of_length-le xs (omega arith)))

  pub suffix-found : (r : Option ℕ) → IsLastByte p xs r → length xs - suffix_len (λ x. not (p x)) xs ≡ behind r
  suffix-found None none =
      let whole = suffix_len_is (λ x. not (p x)) xs 0 0 zero-le
      (λ k _ inside. not_from_false _ (false_from_ne_true _ (none k zero-le inside))) (λ past. absurd (omega arith)) in
      omega (arith, whole)
  suffix-found (Some k) found =
      let inside = found.0.high in
      let last : k + 1 - 1 ≡ k = omega arith in
      let part = suffix_len_is (λ x. not (p x)) xs (k + 1) 0 (omega arith)
      (λ j low high. not_from_false _ (false_from_ne_true _ (found.0.after j low high)))
      (λ _. rw last (not_from_true _ found.1)) in
      omega (arith, part)

  pub behind-le : (r : Option ℕ) → IsLastByte p xs r → behind r ≤ length xs
  behind-le None none = zero-le
  behind-le (Some k) found = let inside = found.0.high in omega arith

  pub none-behind : (r : Option ℕ) → IsLastByte p xs r → (k : ℕ) → behind r ≤ k → k < length xs → p (get_or xs k 0) ≡ false
  none-behind None none k low high = false_from_ne_true _ (none k zero-le high)
  none-behind (Some at) found k low high = false_from_ne_true _ (found.0.after k low high)

-- the set of both separators
pub is_in-separators : is_in (47 ∷ 58 ∷ []) ≡ is_separator
unfolding is_in
is_in-separators = λ i x. ap (λ b. (x == 47) || b) (or-false (x == 58)) i
