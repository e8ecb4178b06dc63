-- The index of each entry of a tree, at its header.
use Rattle.ados_salvage.proofs.Common.{◌≡◌, ◌≢◌, ℕ, ◌+◌, ◌<◌, inl, inr, true, false, All, AllPairs, List, length, slice_index, get_or, get_or-set_same, get_or-set_other, length-set, set, Option, None, Some, IsSome, is_some, sym, ap, ◌∙◌, subst, arith, cases_lt, cases_eq, get_or_default, get_or-map, block_count, Salvaged, headers_of, place_at}
use Rattle.ados_salvage.specs.steps.Gathering.{ArePlacesOf}

-- the first entries have their places, and only their headers have one
pub record ArePlacesBelow (image headers : List ℕ) (n : ℕ) (places : List (Option ℕ)) : Type 0 where
  pub size : length places ≡ block_count image
  pub placed : (i : ℕ) → i < n → place_at places (slice_index headers i) ≡ Some i
  pub met : (block : ℕ) → IsSome (place_at places block) → (i : ℕ) × (i < n) × (slice_index headers i ≡ block)

module _ (image headers : List ℕ) where
  pub places_none : (places : List (Option ℕ)) → length places ≡ block_count image → ((block : ℕ) → place_at places block ≡ None) → ArePlacesBelow image headers 0 places
  places_none places size none = record {
    size = size;
    placed = λ i l. absurd (omega (arith, l));
    met = λ block some. let never : false ≡ true = sym (ap is_some (none block)) ∙ some in absurd (cc never);
  }

  module _ (n : ℕ) (places new : List (Option ℕ)) (h : ArePlacesBelow image headers n places) (once : AllPairs (λ a b. a ≢ b) headers) (inside : All (λ header. header < block_count image) headers) (l : n < length headers)
      (header : ℕ) (is : header ≡ slice_index headers n) (put : new ≡ set places header (Some n)) where
    below : header < length places
    below = omega (arith, is, h.size, inside n 0 l)

    here : place_at new header ≡ Some n
    here = ap (λ (ps : List (Option ℕ)). place_at ps header) put ∙ get_or-set_same places header (Some n) None below

    there : (b : ℕ) → b ≢ header → place_at new b ≡ place_at places b
    there b other = ap (λ (ps : List (Option ℕ)). place_at ps b) put ∙ get_or-set_other places header b (Some n) None other

    pub places_more : ArePlacesBelow image headers (n + 1) new
    places_more = record {
      size = ap length put ∙ length-set places header (Some n) ∙ h.size;
      placed = λ i m. elim (cases_lt i n) [
        | inl before ↦ there (slice_index headers i) (λ e. once i n 0 before l (e ∙ is)) ∙ h.placed i before
        | inr behind ↦ (let last : n ≡ i = omega (arith, m, behind) in
            subst (λ (k : ℕ). place_at new (slice_index headers k) ≡ Some k) last (ap (place_at new) (sym is) ∙ here))
      ];
      met = λ block some. elim (cases_eq block header) [
        | inl e ↦ (n, omega arith, sym is ∙ sym e)
        | inr e ↦ (let old = h.met block (ap is_some (sym (there block e)) ∙ some) in (old.0, omega (arith, old.1), old.2))
      ];
    }

-- the header of an entry is the one at its index
pub header_is : (found : List Salvaged) (n : ℕ) (entry : Salvaged) → n < length found → (get_or found n entry).header ≡ slice_index (headers_of found) n
header_is found n entry l = sym (get_or-map (λ (e : Salvaged). e.header) found n entry 0 l)

-- all entries have theirs
pub places_all : (image : List ℕ) (found : List Salvaged) (n : ℕ) (places : List (Option ℕ)) → n ≡ length (headers_of found) → ArePlacesBelow image (headers_of found) n places → ArePlacesOf image found places
places_all image found n places all h = record {
  size = h.size;
  placed = λ i l. h.placed i (omega (arith, l, all));
  met = λ block some.
      let at = h.met block some in
      let l : at.0 < length (headers_of found) = omega (arith, at.1, all) in
      (at.0, l, get_or_default (headers_of found) at.0 block 0 l ∙ at.2);
}
