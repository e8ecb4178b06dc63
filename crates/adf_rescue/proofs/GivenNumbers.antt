-- The numbers of the data blocks that were given to each entry, while they are gathered.
use Rattle.std.proofs.Common.{◌≡◌, ◌≢◌, ℕ, ◌+◌, ◌<◌, inl, inr, Bool, List, [], ◌∷◌, ◌++◌, cond, get_or, length, map, take, refl, sym, ap, ◌∙◌, subst, arith, ◌==◌}
use Rattle.std.specs.Prelude.{filter, Vec}
use Rattle.std.specs.Global.{Global}
use Rattle.std.proofs.lemmas.Bool.{cases_eq, cases_lt, eq-eqb, ne_eqb}
use Rattle.std.proofs.lemmas.List.{append-nil, get_or_default, length-append, map-append}
use Rattle.std.proofs.lemmas.List.Elements.{filter_more}
use Rattle.ados_salvage.specs.declared.giving.Piece.{Piece}
use Rattle.adf_rescue.specs.Missing.{given_to, values_at}
use Rattle.adf_rescue.proofs.Values.{values_before, values_last, values_past}

module _ (pieces : List Piece) (i : ℕ) (piece : Piece) (inside : i < length pieces) (is : get_or pieces i piece ≡ piece) (place : ℕ) where
  -- the numbers that were given up to one more piece
  given_more : given_to (take (i + 1) pieces) place ≡ given_to (take i pieces) place ++ map (λ (p : Piece). p.at) (cond (piece.place == place) (piece ∷ []) [])
  given_more =
      let here = λ (p : Piece). p.place == place in
      ap (map (λ (p : Piece). p.at)) (filter_more here pieces i piece inside ∙ ap (λ (p : Piece). filter here (take i pieces) ++ cond (here p) (p ∷ []) []) is)
      ∙ map-append (λ (p : Piece). p.at) (filter here (take i pieces)) (cond (here piece) (piece ∷ []) [])

  -- to its place
  pub given_here : piece.place ≡ place → given_to (take (i + 1) pieces) place ≡ given_to (take i pieces) place ++ piece.at ∷ []
  given_here same = given_more ∙ ap (λ (b : Bool). given_to (take i pieces) place ++ map (λ (p : Piece). p.at) (cond b (piece ∷ []) [])) (eq-eqb piece.place place same)

  -- to another place
  pub given_there : piece.place ≢ place → given_to (take (i + 1) pieces) place ≡ given_to (take i pieces) place
  given_there other =
      given_more ∙ ap (λ (b : Bool). given_to (take i pieces) place ++ map (λ (p : Piece). p.at) (cond b (piece ∷ []) [])) (ne_eqb piece.place place other)
      ∙ append-nil (given_to (take i pieces) place)

-- the numbers so far
pub record AreGiven (pieces : List Piece) (i count : ℕ) (numbers : List (Vec ℕ Global)) : Type 0 where
  pub size : length numbers ≡ count
  pub each : (place : ℕ) → place < count → values_at numbers place ≡ given_to (take i pieces) place

-- with those of one more piece
given_by : (pieces : List Piece) (i count : ℕ) (numbers more : List (Vec ℕ Global)) (piece : Piece) → AreGiven pieces i count numbers → i < length pieces → get_or pieces i piece ≡ piece → length more ≡ length numbers
    → (piece.place < length numbers → values_at more piece.place ≡ values_at numbers piece.place ++ piece.at ∷ [])
    → ((other : ℕ) → other ≢ piece.place → values_at more other ≡ values_at numbers other) → AreGiven pieces (i + 1) count more
given_by pieces i count numbers more piece so_far inside is size here others = record {
  size = size ∙ so_far.size;
  each = λ place l. elim (cases_eq place piece.place) [
    | inl same ↦
        subst (λ (k : ℕ). values_at more k ≡ given_to (take (i + 1) pieces) k) (sym same)
        (here (omega (arith, l, so_far.size, same)) ∙ ap (λ (l : List ℕ). l ++ piece.at ∷ []) (so_far.each piece.place (omega (arith, l, same)))
        ∙ sym (given_here pieces i piece inside is piece.place refl))
    | inr other ↦ others place other ∙ so_far.each place l ∙ sym (given_there pieces i piece inside is place (λ e. other (sym e)))
  ];
}

pub given_on : (pieces : List Piece) (i count : ℕ) (numbers more : List (Vec ℕ Global)) (d : Piece) → AreGiven pieces i count numbers → i < length pieces → length more ≡ length numbers
    → ((get_or pieces i d).place < length numbers → values_at more (get_or pieces i d).place ≡ values_at numbers (get_or pieces i d).place ++ (get_or pieces i d).at ∷ [])
    → ((other : ℕ) → other ≢ (get_or pieces i d).place → values_at more other ≡ values_at numbers other) → AreGiven pieces (i + 1) count more
given_on pieces i count numbers more d so_far inside size here others =
    given_by pieces i count numbers more (get_or pieces i d) so_far inside (get_or_default pieces i (get_or pieces i d) d inside) size here others

-- one more list that is empty, as all before it
pub none_more : (lists : List (Vec ℕ Global)) (list : Vec ℕ Global) → ((place : ℕ) → values_at lists place ≡ []) → list.items ≡ [] → (place : ℕ) → values_at (lists ++ list ∷ []) place ≡ []
none_more lists list none empty place = elim (cases_lt place (length lists)) [
  | inl low ↦ values_before lists list place low ∙ none place
  | inr high ↦ elim (cases_eq place (length lists)) [
    | inl last ↦ subst (λ (k : ℕ). values_at (lists ++ list ∷ []) k ≡ []) (sym last) (values_last lists list ∙ empty)
    | inr other ↦ values_past (lists ++ list ∷ []) place (omega (arith, high, other, length-append lists (list ∷ [])))
  ]
]
