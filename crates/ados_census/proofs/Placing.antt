-- The places that name a block, found one by one.
use Rattle.std.proofs.Common.{◌≡◌, ℕ, ◌+◌, ◌*◌, ◌/◌, ◌%◌, ◌<◌, ◌≤◌, inl, inr, Bool, true, false, MatchBool, List, [], ◌∷◌, ◌++◌, length, get_or, refl, sym, ap, ◌∙◌, subst, arith, if◌then◌else◌, ◌==◌}
use Rattle.std.specs.Prelude.{Contains}
use Rattle.std.proofs.lemmas.Bool.{cases_lt}
use Rattle.std.proofs.lemmas.List.{get_or_default, get_or_past}
use Rattle.std.proofs.lemmas.List.Elements.{All-push, Contains-append_left, Contains-push}
use Rattle.std.proofs.lemmas.List.Quantifiers.{all_pairs_push}
use Rattle.adf_block.specs.Image.{block_count, long}
use Rattle.adf_block.specs.Whole.{IsImage}
use Rattle.ados_model.specs.declared.role.Role.{Role}
use Rattle.ados_check.proofs.PlaceLemmas.{place_within}
use Rattle.ados_census.specs.declared.place.Place.{Place}
use Rattle.ados_census.specs.declared.place.PlaceKind.{PlaceKind}
use Rattle.ados_census.specs.declared.place.PlaceKind.TheVariants.{Entry, NextEntry, Extension, Data, Page}
use Rattle.ados_census.specs.Namings.{AreNamings, IsNaming, Names}
use Rattle.ados_census.specs.Places.{AreAllPlaces, Gives, IsPlaceOfReached, NamesBlock, position, rank}
use Rattle.ados_census.specs.steps.Placing.{ArePlacesBelow, IsGivenIn}
use Rattle.ados_census.specs.steps.Reaching.{IsReachedIn, form}
use Rattle.ados_census.proofs.Insides.{few_pages, reached_inside}
use Rattle.ados_census.proofs.NamedLongs.{places_are_namings}
use Rattle.ados_census.proofs.Reaching.{form_small, same_place}

-- ---- the order of places

abbrev by_rank : ℕ → PlaceKind
by_rank n = if n == 0 then Entry else (if n == 1 then NextEntry else (if n == 2 then Extension else (if n == 3 then Data else Page)))

of_rank : (a : PlaceKind) → by_rank (rank a) ≡ a
of_rank Entry = refl
of_rank NextEntry = refl
of_rank Extension = refl
of_rank Data = refl
of_rank Page = refl

same_rank : (a b : PlaceKind) → rank a ≡ rank b → a ≡ b
same_rank a b e = sym (of_rank a) ∙ ap by_rank e ∙ of_rank b

rank_small : (a : PlaceKind) → rank a < 5
rank_small Entry = omega arith
rank_small NextEntry = omega arith
rank_small Extension = omega arith
rank_small Data = omega arith
rank_small Page = omega arith

same_parts : (p q : Place) → p.holder ≡ q.holder → p.long ≡ q.long → p.kind ≡ q.kind → p ≡ q
same_parts p q a b c = λ i. record { holder = a i; long = b i; kind = c i }

-- a position has its parts
parts_of : (h i k g j r : ℕ) → i < 128 → k < 5 → j < 128 → r < 5 → 5 * (128 * h + i) + k ≡ 5 * (128 * g + j) + r → (h ≡ g) × (i ≡ j) × (k ≡ r)
parts_of h i k g j r a b c d e =
    let low : k ≡ r = omega arith in
    let rest : 128 * h + i ≡ 128 * g + j = omega arith in
    (omega arith, omega arith, low)

-- ---- places of reached blocks

module _ (image : List ℕ) where
  -- what a block gives in a role it gives in each role of this form
  same_gives : (place : Place) (role other : Role) → form other ≡ form role → Gives image place role → Gives image place other
  same_gives place role other e g =
      let same = same_place image g.is_place other e in
      record { next = same.0; is_place = same.1; makes = same.3 ∙ g.makes }

  -- a block that is reached in a role of this form
  pub given_in : (place : Place) (k : ℕ) → IsReachedIn image place.holder k → (role : Role) → form role ≡ k → (r : Bool) → MatchBool r (Gives image place role) (¬ Gives image place role)
      → MatchBool r (IsGivenIn image place k) (¬ IsGivenIn image place k)
  given_in place k h role of_form true g = record { role = h.role; of_form = h.of_form; reached = h.reached; gives = same_gives place role h.role (h.of_form ∙ sym of_form) g }
  given_in place k h role of_form false none = λ g. none (same_gives place g.role role (of_form ∙ sym g.of_form) g.gives)

  pub not_given : (place : Place) (k : ℕ) → ¬ IsReachedIn image place.holder k → ¬ IsGivenIn image place k
  not_given place k none g = none (record { role = g.role; of_form = g.of_form; reached = g.reached })

  pub given_is : (place : Place) (k : ℕ) → IsGivenIn image place k → IsPlaceOfReached image place
  given_is place k g = record { role = g.role; reached = g.reached; gives = g.gives }

  pub no_form_gives : (place : Place) → ((k : ℕ) → k < 4 → ¬ IsGivenIn image place k) → ¬ IsPlaceOfReached image place
  no_form_gives place none h = none (form h.role) (form_small h.role) (record { role = h.role; of_form = refl; reached = h.reached; gives = h.gives })

pub no_places : (image : List ℕ) (block n : ℕ) (places : List Place) → n ≡ 0 → places ≡ [] → ArePlacesBelow image block n places
no_places image block n places zero e = subst (ArePlacesBelow image block n) (sym e) (record {
  in_order = λ i j d l m. absurd (omega (arith, l, m));
  below = λ k d l. absurd (omega (arith, l));
  named = λ k d l. absurd (omega (arith, l));
  all = λ place l names. absurd (omega (arith, l, zero));
})

module _ (image : List ℕ) (im : IsImage image) where
  long_small : (place : Place) → IsPlaceOfReached image place → place.long < 128
  long_small place h = omega (arith, (place_within h.gives.is_place (few_pages image im)).1)

  -- places at one position are one place
  only_place : (place other : Place) → place.long < 128 → IsPlaceOfReached image other → position other ≡ position place → other ≡ place
  only_place place other small is e =
      let parts = parts_of other.holder other.long (rank other.kind) place.holder place.long (rank place.kind) (long_small other is) (rank_small other.kind) small (rank_small place.kind) e in
      same_parts other place parts.0 parts.1 (same_rank other.kind place.kind parts.2)

  module _ (block n : ℕ) (places : List Place) (h : ArePlacesBelow image block n places) where
    -- no place is at the next positions
    pub none_as_far : (m : ℕ) → n ≤ m → ((place : Place) → n ≤ position place → position place < m → ¬ NamesBlock image block place) → ArePlacesBelow image block m places
    none_as_far m more none = record {
      in_order = h.in_order;
      below = λ k d l. omega (arith, h.below k d l, more);
      named = h.named;
      all = λ place l p. elim (cases_lt (position place) n) [
        | inl before ↦ h.all place before p
        | inr behind ↦ absurd (none place behind l p)
      ];
    }

    -- one more place
    one_more : (place : Place) → position place ≡ n → place.long < 128 → NamesBlock image block place → ArePlacesBelow image block (n + 1) (places ++ place ∷ [])
    one_more place here small names = record {
      in_order = all_pairs_push (λ (a b : Place). position a < position b) places place h.in_order (λ k d l. omega (arith, h.below k d l, here));
      below = All-push (λ (p : Place). position p < n + 1) places place (λ k d l. omega (arith, h.below k d l)) (omega (arith, here));
      named = All-push (NamesBlock image block) places place h.named names;
      all = λ other l p. elim (cases_lt (position other) n) [
        | inl before ↦ Contains-append_left places (place ∷ []) other (h.all other before p)
        | inr behind ↦
            (let at : position other ≡ position place = omega (arith, l, behind, here) in
            subst (Contains (places ++ place ∷ [])) (sym (only_place place other small p.is_place at)) (Contains-push places place))
      ];
    }

  -- one position
  module _ (place : Place) (small : place.long < 128) (n m : ℕ) (here : position place ≡ n) (next : m ≡ n + 1) (places : List Place)
      (h : ArePlacesBelow image (long image place.holder place.long) n places) where
    pub place_added : IsPlaceOfReached image place → (more : List Place) → more ≡ places ++ place ∷ [] → ArePlacesBelow image (long image place.holder place.long) m more
    place_added is more e =
        let all = one_more (long image place.holder place.long) n places h place here small (record { is_place = is; names = refl }) in
        subst (λ (l : ℕ). ArePlacesBelow image (long image place.holder place.long) l more) (sym next) (subst (ArePlacesBelow image (long image place.holder place.long) (n + 1)) (sym e) all)

    pub place_skipped : ¬ IsPlaceOfReached image place → ArePlacesBelow image (long image place.holder place.long) m places
    place_skipped none =
        none_as_far (long image place.holder place.long) n places h m (omega (arith, next))
        (λ other from to names. none (subst (IsPlaceOfReached image) (only_place place other small names.is_place (omega (arith, here, next, from, to))) names.is_place))

  module _ (block : ℕ) (inside : block < block_count image) (numbers : List ℕ) (n : AreNamings image block numbers) where
    -- the number of naming k, and behind the last one more than all numbers
    abbrev number_at : ℕ → ℕ
    number_at k = get_or numbers k (128 * block_count image)

    -- a place that names the block is one of its namings
    is_named : (place : Place) → NamesBlock image block place → Names image block (128 * place.holder + place.long)
    is_named place p =
        let h = p.is_place in
        let small = long_small place h in
        let holder : (128 * place.holder + place.long) / 128 ≡ place.holder = omega (arith, small) in
        let at : (128 * place.holder + place.long) % 128 ≡ place.long = omega (arith, small) in
        let is = places_are_namings image place.holder place.long h.role h.gives.next (reached_inside image im h.reached) h.reached h.gives.is_place (subst (λ (b : ℕ). b < block_count image) (sym p.names) inside) in
        record {
          is_naming = subst (λ (b : ℕ). IsNaming image b ((128 * place.holder + place.long) % 128)) (sym holder) (subst (IsNaming image place.holder) (sym at) is);
          names = ap (λ (b : ℕ). long image b ((128 * place.holder + place.long) % 128)) holder ∙ ap (long image place.holder) at ∙ p.names;
        }

    -- no place that names the block is between the namings before k and naming k
    none_between : (k m : ℕ) → ((j : ℕ) → j < k → j < length numbers → get_or numbers j 0 < m) → (place : Place) → 5 * m ≤ position place → position place < 5 * number_at k → ¬ NamesBlock image block place
    none_between k m before place from to p =
        let c = n.all (128 * place.holder + place.long) (is_named place p) in
        let few = rank_small place.kind in
        let is : get_or numbers c.0 0 ≡ 128 * place.holder + place.long = get_or_default numbers c.0 0 (128 * place.holder + place.long) c.1 ∙ c.2 in
        elim (cases_lt c.0 k) [
          | inl less ↦ absurd (omega (arith, before c.0 less c.1, is, from, few))
          | inr on ↦
              (let up : number_at k ≤ get_or numbers c.0 0 = elim (cases_lt k c.0) [
                | inl later ↦ omega (arith, n.in_order k c.0 0 later c.1, get_or_default numbers k (128 * block_count image) 0 (omega (arith, later, c.1)))
                | inr same ↦
                    (let e : k ≡ c.0 = omega (arith, on, same) in
                    omega (arith, ap number_at e, get_or_default numbers c.0 (128 * block_count image) 0 c.1))
              ] in
              absurd (omega (arith, up, is, to)))
        ]

    pub places_begin : (places : List Place) → places ≡ [] → ArePlacesBelow image block (5 * number_at 0) places
    places_begin places e =
        none_as_far block 0 places (no_places image block 0 places refl e) (5 * number_at 0) (omega arith)
        (λ place from to. none_between 0 0 (λ j l. absurd (omega (arith, l))) place (omega arith) to)

    -- the places at naming k are next
    pub places_at : (k : ℕ) → k < length numbers → (places : List Place) → ArePlacesBelow image block (5 * number_at k) places
        → ArePlacesBelow image (long image (get_or numbers k 0 / 128) (get_or numbers k 0 % 128)) (640 * (get_or numbers k 0 / 128) + 5 * (get_or numbers k 0 % 128)) places
    places_at k l places h =
        subst (λ (b : ℕ). ArePlacesBelow image b (640 * (get_or numbers k 0 / 128) + 5 * (get_or numbers k 0 % 128)) places) (sym (n.named k 0 l).names)
        (subst (λ (m : ℕ). ArePlacesBelow image block m places) (omega (arith, get_or_default numbers k (128 * block_count image) 0 l)) h)

    -- these are found too
    pub places_on : (k : ℕ) → k < length numbers → (places : List Place)
        → ArePlacesBelow image (long image (get_or numbers k 0 / 128) (get_or numbers k 0 % 128)) (640 * (get_or numbers k 0 / 128) + 5 * (get_or numbers k 0 % 128 + 1)) places
        → ArePlacesBelow image block (5 * number_at (k + 1)) places
    places_on k l places h =
        let number = get_or numbers k 0 in
        let of = n.named k 0 l in
        let found : ArePlacesBelow image block (5 * (number + 1)) places =
        subst (λ (b : ℕ). ArePlacesBelow image b (5 * (number + 1)) places) of.names
        (subst (λ (m : ℕ). ArePlacesBelow image (long image (number / 128) (number % 128)) m places) (omega arith) h) in
        let before : (j : ℕ) → j < k + 1 → j < length numbers → get_or numbers j 0 < number + 1 =
        λ j m d. elim (cases_lt j k) [
          | inl less ↦ omega (arith, n.in_order j k 0 less l)
          | inr same ↦ (let e : j ≡ k = omega (arith, m, same) in omega (arith, ap (λ (i : ℕ). get_or numbers i 0) e))
        ] in
        let more : number + 1 ≤ number_at (k + 1) =
        elim (cases_lt (k + 1) (length numbers)) [
          | inl there ↦ omega (arith, n.in_order k (k + 1) 0 (omega arith) there, get_or_default numbers (k + 1) (128 * block_count image) 0 there)
          | inr past ↦ omega (arith, get_or_past numbers (k + 1) (128 * block_count image) past, of.is_naming.inside.1)
        ] in
        none_as_far block (5 * (number + 1)) places found (5 * number_at (k + 1)) (omega (arith, more)) (none_between (k + 1) (number + 1) before)

    -- all places are found
    pub all_places : (k : ℕ) → length numbers ≤ k → (places : List Place) → ArePlacesBelow image block (5 * number_at k) places → AreAllPlaces image block places
    all_places k past places h = record {
      in_order = h.in_order;
      named = h.named;
      all = λ place p.
          (let small = long_small place p.is_place in
          let few = rank_small place.kind in
          let within = (reached_inside image im p.is_place.reached).1 in
          h.all place (omega (arith, small, few, within, get_or_past numbers k (128 * block_count image) past)) p);
    }
