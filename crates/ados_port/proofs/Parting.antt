-- Lists made element by element from other lists.
use Rattle.std.proofs.Common.{◌≡◌, ℕ, ◌+◌, List, [], ◌∷◌, ◌++◌, length, map, refl, sym, ap, ◌∙◌, append_assoc, length-append, arith}
use Rattle.std.proofs.lemmas.List.{map-append}

module _ {X : Type 0} where
  -- one more element of a list was visited
  pub gone_over : (ys rest rest' all : List X) (x : X) → ys ++ rest ≡ all → rest ≡ x ∷ rest' → (ys ++ x ∷ []) ++ rest' ≡ all
  gone_over ys rest rest' all x whole first = append_assoc ys (x ∷ []) rest' ∙ (ap (λ (l : List X). ys ++ l) (sym first) ∙ whole)

module _ {X Y : Type 0} where
  -- one more element was made, from this element
  pub made_more : (f : X → Y) (made made' : List X) (ys : List Y) (x : X) (y : Y) → map f made ≡ ys → made' ≡ made ++ x ∷ [] → f x ≡ y → map f made' ≡ ys ++ y ∷ []
  made_more f made made' ys x y was longer of_this = ap (λ (l : List X). map f l) longer ∙ (map-append f made (x ∷ []) ∙ (λ i. was i ++ of_this i ∷ []))

  -- one more element was made, from the first remaining one
  pub used_more : (f : X → Y) (made made' : List X) (rest rest' all : List Y) (x : X) (y : Y) → map f made ++ rest ≡ all → rest ≡ y ∷ rest' → made' ≡ made ++ x ∷ [] → f x ≡ y → map f made' ++ rest' ≡ all
  used_more f made made' rest rest' all x y whole first longer of_this =
      ap (λ (l : List Y). l ++ rest') (made_more f made made' (map f made) x y refl longer of_this) ∙ gone_over (map f made) rest rest' all y whole first

module _ {X Y : Type 0} where
  -- the elements made and remaining are as many as before
  pub counted_more : (made made' : List X) (rest rest' : List Y) (x : X) (y : Y) (n : ℕ) → length made + length rest ≡ n → rest ≡ y ∷ rest' → made' ≡ made ++ x ∷ [] → length made' + length rest' ≡ n
  counted_more made made' rest rest' x y n was first longer =
      let fewer = ap (λ (l : List Y). length l) first in
      let more = ap (λ (l : List X). length l) longer in
      let sum = length-append made (x ∷ []) in
      omega arith
