-- Lists whose elements are equal by a test.
use Rattle.adf_record.proofs.Common.{◌≡◌, List, [], ◌∷◌, Bool, map, refl, ap, ◌∙◌, slice_eq-Decides}
use Rattle.std.specs.Prelude.{◌&&◌}
use Rattle.std.specs.Bool.{Decides}
use Rattle.std.specs.Cmp.Lexicographic.{pointwise}

module _ {A B : Type 0} (f : A → B) (E : B → B → Bool) where
  pointwise_map : (xs ys : List A) → pointwise (λ (x y : A). E (f x) (f y)) xs ys ≡ pointwise E (map f xs) (map f ys)
  pointwise_map [] [] = refl
  pointwise_map [] (y ∷ ys) = refl
  pointwise_map (x ∷ xs) [] = refl
  pointwise_map (x ∷ xs) (y ∷ ys) = ap (λ (b : Bool). E (f x) (f y) && b) (pointwise_map xs ys)

  -- equal by the test of f's values, where that test decides
  pub mapped_decides : ((a b : B) → Decides (E a b) (a ≡ b)) → (xs ys : List A) (r : Bool) → r ≡ pointwise (λ (x y : A). E (f x) (f y)) xs ys → Decides r (map f xs ≡ map f ys)
  mapped_decides decides xs ys r is = slice_eq-Decides decides (map f xs) (map f ys) r (is ∙ pointwise_map xs ys)
