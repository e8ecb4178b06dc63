-- The bytes of numbers.
use Rattle.adf_script.proofs.Common.{inl, inr, ℕ, zero, suc, ◌<◌, ℤ, List, [], ◌∷◌, get_or, sym, subst, arith, AllDigits, digit_from_value, IsNumber, IsSigned}
use Rattle.std.specs.Str.{IsUtf8}
use Rattle.std.proofs.lemmas.Str.{IsUtf8-from_ascii}

digits_below : (ds : List ℕ) → AllDigits 10 ds → (i : ℕ) → get_or ds i 0 < 128
digits_below [] all i = omega arith
digits_below (c ∷ cs) all zero = omega (arith, digit_from_value c all.0)
digits_below (c ∷ cs) all (suc i) = digits_below cs all.1 i

minus_below : (ds : List ℕ) → AllDigits 10 ds → (i : ℕ) → get_or (45 ∷ ds) i 0 < 128
minus_below ds all zero = omega arith
minus_below ds all (suc i) = digits_below ds all i

-- a number is UTF-8
pub number_is_text : (n : ℕ) (bytes : List ℕ) → IsNumber n bytes → IsUtf8 bytes
number_is_text n bytes s = IsUtf8-from_ascii bytes (digits_below bytes s.0.1)

-- a signed number is UTF-8
pub signed_is_text : (z : ℤ) (bytes : List ℕ) → IsSigned z bytes → IsUtf8 bytes
signed_is_text z bytes s = elim s [
  | inl w ↦ IsUtf8-from_ascii bytes (digits_below bytes w.1.0.1)
  | inr w ↦ subst IsUtf8 (sym w.2) (IsUtf8-from_ascii (45 ∷ w.1) (minus_below w.1 w.3.0.1))
]
