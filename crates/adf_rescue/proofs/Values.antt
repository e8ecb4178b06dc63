-- Lists of lists: the values of the list at a place.
use Rattle.std.proofs.Common.{◌≡◌, ◌≢◌, ℕ, ◌+◌, ◌<◌, ◌≤◌, inl, inr, List, [], ◌∷◌, ◌++◌, get_or, get_or-set_other, get_or-set_same, length, length-set, refl, sym, ap, ◌∙◌, arith, Option}
use Rattle.std.specs.Prelude.{Vec}
use Rattle.std.specs.Global.{Global}
use Rattle.std.specs.Option.{option_map_or}
use Rattle.std.proofs.Math.ListN.{set}
use Rattle.std.proofs.lemmas.Bool.{cases_lt}
use Rattle.std.proofs.lemmas.List.{get_or_append_left, get_or_push, length-append}
use Rattle.std.proofs.lemmas.Option.{slice_get-get_or, slice_get_past}
use Rattle.adf_rescue.specs.Missing.{values_at}

module _ {X : Type 0} where
  abbrev items_of : Option (Vec X Global) → List X
  items_of list = option_map_or (λ (list : Vec X Global). list.items) list []

  pub values_inside : (lists : List (Vec X Global)) (place : ℕ) (d : Vec X Global) → place < length lists → values_at lists place ≡ (get_or lists place d).items
  values_inside lists place d l = ap items_of (slice_get-get_or lists place d l)

  pub values_past : (lists : List (Vec X Global)) (place : ℕ) → length lists ≤ place → values_at lists place ≡ []
  values_past lists place l = ap items_of (slice_get_past lists place l)

  -- behind one more list
  module _ (lists : List (Vec X Global)) (list : Vec X Global) where
    pub values_last : values_at (lists ++ list ∷ []) (length lists) ≡ list.items
    values_last = values_inside (lists ++ list ∷ []) (length lists) list (omega (arith, length-append lists (list ∷ []))) ∙ ap (λ (l : Vec X Global). l.items) (get_or_push lists list list (length lists) refl)

    pub values_before : (place : ℕ) → place < length lists → values_at (lists ++ list ∷ []) place ≡ values_at lists place
    values_before place l =
        values_inside (lists ++ list ∷ []) place list (omega (arith, l, length-append lists (list ∷ [])))
        ∙ ap (λ (l : Vec X Global). l.items) (get_or_append_left lists (list ∷ []) list place l) ∙ sym (values_inside lists place list l)

  -- with another list at a place
  module _ (lists : List (Vec X Global)) (at : ℕ) (list : Vec X Global) where
    pub values_there : at < length lists → values_at (set lists at list) at ≡ list.items
    values_there l = values_inside (set lists at list) at list (omega (arith, l, length-set lists at list)) ∙ ap (λ (l : Vec X Global). l.items) (get_or-set_same lists at list list l)

    pub values_other : (place : ℕ) → place ≢ at → values_at (set lists at list) place ≡ values_at lists place
    values_other place other = elim (cases_lt place (length lists)) [
      | inl low ↦
          values_inside (set lists at list) place list (omega (arith, low, length-set lists at list))
          ∙ ap (λ (l : Vec X Global). l.items) (get_or-set_other lists at place list list other) ∙ sym (values_inside lists place list low)
      | inr high ↦ values_past (set lists at list) place (omega (arith, high, length-set lists at list)) ∙ sym (values_past lists place (omega (arith, high)))
    ]
