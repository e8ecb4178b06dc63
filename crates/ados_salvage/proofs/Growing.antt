-- The entries while they are gathered, one by one.
use Rattle.ados_salvage.proofs.Common.{◌≡◌, ◌≢◌, ℕ, ◌+◌, ◌*◌, ◌<◌, ◌≤◌, inl, inr, All, List, [], ◌∷◌, ◌++◌, length, slice_index, get_or-set_same, get_or-set_other, length-set, Contains, Option, None, Some, IsSome, is_some, refl, sym, ap, ◌∙◌, subst, arith, set, cases_lt, cases_eq, drop, get_or_append_left, get_or_push, length-append, length-map, map-append, All-nil, All-push, Contains-append_left, Contains-append_right, block_count, text_at, NAME_BYTE, Gathered, Known, Salvaged, Lost, IsLost, IsLostEntry, IsTold, broken_length, broken_total, headers_of, IsGiving, AreGathered, AreGatheredBy, GathersMore, place_at, Bool}
use Rattle.ados_name.specs.Name.{IsName}
use Rattle.std.proofs.lemmas.List.{drop-append-le, drop_all}
use Rattle.ados_salvage.specs.Missing.{TellsMissing}
use Rattle.ados_salvage.specs.steps.Counting.{AreCounted, GivesMore, HasNone}
use Rattle.ados_salvage.specs.steps.Finding.{AreOfOneTree}
use Rattle.ados_salvage.proofs.MissingBlocks.{counts_more, counts_none}
use Rattle.ados_salvage.specs.steps.Gathering.{ArePlacesOf}

-- the bytes of broken files, with one more entry
pub broken_more : (xs : List Salvaged) (e : Salvaged) → broken_total (xs ++ e ∷ []) ≡ broken_total xs + broken_length e.state
unfolding broken_total
broken_more [] e = omega arith
broken_more (x ∷ xs) e = omega (arith, broken_more xs e)

pub none_broken : broken_total [] ≡ 0
unfolding broken_total
none_broken = refl

-- no entries are those of one tree
pub no_tree : (image : List ℕ) (found : List Salvaged) → found ≡ [] → AreOfOneTree image found
no_tree image found none = subst (AreOfOneTree image) (sym none) (record {
  once = λ i j d l m. absurd (omega (arith, m));
  inside = λ k d l. absurd (omega (arith, l));
  reached = λ k d l. absurd (omega (arith, l));
  whole = none_broken;
})

-- only the entries of a tree are there
pub gathers_none : (out : List ℕ) (holes : List Bool) (fillers : Bool) (image : List ℕ) (tree : List Salvaged) (g : Gathered) → g.entries.items ≡ tree → AreOfOneTree image tree → ArePlacesOf image tree g.places.items
    → IsGiving holes image g.giving → g.giving.left ≤ 4 * length image → g.giving.pieces.items ≡ [] → AreGathered (length tree) out holes fillers image g
gathers_none out holes fillers image tree g entries of places giving share none = record {
  behind = omega (arith, ap length entries);
  told = subst (All (IsTold out holes fillers image)) (sym (ap (drop (length tree)) entries ∙ drop_all (length tree) tree (omega arith))) (All-nil (IsTold out holes fillers image));
  size = places.size;
  placed = subst (λ (es : List Salvaged). (i : ℕ) → i < length (headers_of es) → place_at g.places.items (slice_index (headers_of es) i) ≡ Some i) (sym entries) places.placed;
  met = subst (λ (es : List Salvaged). (block : ℕ) → IsSome (place_at g.places.items block) → Contains (headers_of es) block) (sym entries) places.met;
  giving = giving;
  bounded = omega (arith, share, ap broken_total entries, of.whole);
  counted = subst (λ (n : ℕ). AreCounted n out image g.entries.items g.giving.pieces.items) (ap length entries) (counts_none out image g.entries.items g.giving.pieces.items none);
}

module _ (known : Known) (old new : Gathered) (by : AreGatheredBy known old) (e : Salvaged) (block : ℕ) (told : IsTold known.left_out known.holes.items known.fillers known.image e) (is : e.header ≡ block) (below : block < block_count known.image)
    (free : place_at old.places.items block ≡ None) where
  g : AreGathered known.before known.left_out known.holes.items known.fillers known.image old
  g = by.so_far

  inside : block < length old.places.items
  inside = omega (arith, below, g.size)

  many : length (headers_of old.entries.items) ≡ length old.entries.items
  many = length-map old.entries.items (λ (entry : Salvaged). entry.header)

  now_met : (place : ℕ) → place_at (set old.places.items block (Some place)) block ≡ Some place
  now_met place = get_or-set_same old.places.items block (Some place) None inside

  still : (place b : ℕ) → b ≢ block → place_at (set old.places.items block (Some place)) b ≡ place_at old.places.items b
  still place b other = get_or-set_other old.places.items block b (Some place) None other

  -- one more entry, whose state takes its share
  pub gathers_more : (place : ℕ) → new.entries.items ≡ old.entries.items ++ e ∷ [] → new.places.items ≡ set old.places.items block (Some place) → place ≡ length old.entries.items
      → IsGiving known.holes.items known.image new.giving → broken_length e.state + new.giving.left ≡ old.giving.left → GivesMore known.image block place old.giving.pieces.items new.giving.pieces.items
      → (HasNone old.giving.pieces.items place → TellsMissing known.image new.giving.pieces.items place e.header e.state) → GathersMore known old new × IsSome (place_at new.places.items block)
  gathers_more place grown noted at giving share gives tells =
      let more_headers : headers_of new.entries.items ≡ headers_of old.entries.items ++ block ∷ [] =
      ap headers_of grown ∙ map-append (λ (entry : Salvaged). entry.header) old.entries.items (e ∷ []) ∙ ap (λ (b : ℕ). headers_of old.entries.items ++ b ∷ []) is in
      let here : place_at new.places.items block ≡ Some place = ap (λ (ps : List (Option ℕ)). place_at ps block) noted ∙ now_met place in
      let there : (b : ℕ) → b ≢ block → place_at new.places.items b ≡ place_at old.places.items b = λ b other. ap (λ (ps : List (Option ℕ)). place_at ps b) noted ∙ still place b other in
      let gathered : AreGathered known.before known.left_out known.holes.items known.fillers known.image new = record {
        behind = omega (arith, g.behind, ap length grown, length-append old.entries.items (e ∷ []));
        told = subst (All (IsTold known.left_out known.holes.items known.fillers known.image)) (sym (ap (drop known.before) grown ∙ drop-append-le known.before old.entries.items (e ∷ []) g.behind))
            (All-push (IsTold known.left_out known.holes.items known.fillers known.image) (drop known.before old.entries.items) e g.told told);
        size = ap length noted ∙ length-set old.places.items block (Some place) ∙ g.size;
        placed = λ i l.
            let same : slice_index (headers_of new.entries.items) i ≡ slice_index (headers_of old.entries.items ++ block ∷ []) i = ap (λ (xs : List ℕ). slice_index xs i) more_headers in
            elim (cases_lt i (length (headers_of old.entries.items))) [
              | inl a ↦
                  (let old_is : slice_index (headers_of new.entries.items) i ≡ slice_index (headers_of old.entries.items) i = same ∙ get_or_append_left (headers_of old.entries.items) (block ∷ []) 0 i a in
                  let other : slice_index (headers_of old.entries.items) i ≢ block = λ z.
                  let both : Some i ≡ None = sym (g.placed i a) ∙ ap (place_at old.places.items) z ∙ free in absurd (cc both) in
                  ap (place_at new.places.items) old_is ∙ there (slice_index (headers_of old.entries.items) i) other ∙ g.placed i a)
              | inr a ↦
                  (let last : length (headers_of old.entries.items) ≡ i = omega (arith, a, l, ap length more_headers, length-append (headers_of old.entries.items) (block ∷ [])) in
                  ap (place_at new.places.items) (same ∙ get_or_push (headers_of old.entries.items) block 0 i last) ∙ here ∙ ap Some (at ∙ sym many ∙ last))
            ];
        met = λ b some. subst (λ (xs : List ℕ). Contains xs b) (sym more_headers) (elim (cases_eq b block) [
          | inl a ↦ Contains-append_right (headers_of old.entries.items) (block ∷ []) b (0, omega arith, sym a)
          | inr a ↦ Contains-append_left (headers_of old.entries.items) (block ∷ []) b (g.met b (ap is_some (sym (there b a)) ∙ some))
        ]);
        giving = giving;
        bounded = omega (arith, g.bounded, share, ap broken_total grown, broken_more old.entries.items e);
        counted = counts_more known.before known.left_out known.image old.entries.items new.entries.items old.giving.pieces.items new.giving.pieces.items g.counted e grown
            (subst (λ (n : ℕ). GivesMore known.image e.header n old.giving.pieces.items new.giving.pieces.items) at
            (subst (λ (h : ℕ). GivesMore known.image h place old.giving.pieces.items new.giving.pieces.items) (sym is) gives))
            (λ header. subst (λ (n : ℕ). TellsMissing known.image new.giving.pieces.items n e.header e.state) at (tells (λ k d l z. omega (arith, g.counted.within k d l, z, at))));
      } in (
        (
          record { sure = by.sure; so_far = gathered },
          λ b some. elim (cases_eq b block) [
            | inl a ↦ ap (λ (k : ℕ). is_some (place_at new.places.items k)) a ∙ ap is_some here
            | inr a ↦ ap is_some (there b a) ∙ some
          ],
        ),
        ap is_some here,
      )

-- a lost entry with the name in its block, if that is valid
pub lost_told : (out image : List ℕ) (block : ℕ) (e : Salvaged) → IsLost out image block → e.header ≡ block → (name : List ℕ) → e.name ≡ name → (IsName (text_at image block NAME_BYTE) → name ≡ text_at image block NAME_BYTE)
    → e.state ≡ Lost → IsLostEntry out image e
lost_told out image block e lost is name named valid state = record {
  lost = subst (IsLost out image) (sym is) lost;
  name = subst (λ (b : ℕ). IsName (text_at image b NAME_BYTE) → e.name ≡ text_at image b NAME_BYTE) (sym is) (λ right. named ∙ valid right);
  state = state;
}

-- it takes no share of the bytes
pub lost_takes_none : (e : Salvaged) (left : ℕ) → e.state ≡ Lost → broken_length e.state + left ≡ left
lost_takes_none e left is = omega (arith, ap broken_length is)
