-- Entries of objects, each with everything below it.
use Rattle.std.proofs.Common.{if◌then◌else◌}
use Rattle.adf_export.proofs.Common.{flat_map, ◌≡◌, ◌≢◌, ℕ, suc, ◌+◌, ◌<◌, ◌≤◌, Bool, true, false, ◌==◌, Option, None, Some, IfSome, List, [], ◌∷◌, ◌++◌, length, take, get_or, All, Contains, IsSome, is_some, sym, ap, ◌∙◌, subst, arith, append_assoc, length-append, eq-eqb, flat_map-append, ne_eqb, take_more, All-append, All-cons, All-head, All-nil, All-tail, Contains-here, Contains-later, HasKey, Stands, Proper, Tree, entries, root, entry_node, Below, AreBelow, HasGrown, Note, HasSource, sources_of, tops, Entry}
use Rattle.std.proofs.lemmas.List.{append-nil}
use Rattle.ados_volume.specs.Below.{placed}
use Rattle.ados_volume.specs.Below.AreBelow.{none, entry}

-- what is true of all elements
all_of : (P : ℕ → Type 0) (xs : List ℕ) → ((x : ℕ) → Contains xs x → P x) → All P xs
all_of P [] h = All-nil P
all_of P (x ∷ xs) h = All-cons P x xs (h x (Contains-here x xs)) (all_of P xs (λ y m. h y (Contains-later x xs y m)))

-- the directory is before this position, if it is in the list
abbrev pub IsBefore : ℕ → Below → Type 0
IsBefore n e = IfSome e.above (λ at. at < n)

module _ (t : Tree) where
  pub below_none : (above : Option ℕ) (at : ℕ) → AreBelow t above at [] []
  below_none above at = none

  -- everything below two lists of entries, one after the other
  below_append : (above : Option ℕ) (at : ℕ) (ks ls : List ℕ) (es fs : List Below) → AreBelow t above at ks es → AreBelow t above (length es + at) ls fs → AreBelow t above at (ks ++ ls) (es ++ fs)
  below_append above at [] ls [] fs none b =
      let same : 0 + at ≡ at = omega arith in
      subst (λ (k : ℕ). AreBelow t above k ls fs) same b
  below_append above at [] ls (_ ∷ _) fs a b = elim a [ ]
  below_append above at (key ∷ ks) ls _ fs (entry {inner = inner} {others = others} i o) b =
      let place : length (placed above key ∷ (inner ++ others)) + at ≡ length others + (length inner + suc at) = omega (arith, length-append inner others) in
      subst (λ (es : List Below). AreBelow t above at (key ∷ (ks ++ ls)) (placed above key ∷ es)) (sym (append_assoc inner others fs))
      (entry i (below_append above (length inner + suc at) ks ls others fs o (subst (λ (k : ℕ). AreBelow t above k ls fs) place b)))

  -- the entries of one more object
  pub object_more : (keys : List ℕ) (i : ℕ) → i < length keys → (old new : List Below) → AreBelow t None 0 (flat_map (tops t) (take i keys)) old
      → (more : List Below) → new ≡ old ++ more → AreBelow t None (length old) (tops t (get_or keys i 0)) more → AreBelow t None 0 (flat_map (tops t) (take (i + 1) keys)) new
  object_more keys i inside old new a more grown b =
      let key = get_or keys i 0 in
      let before = flat_map (tops t) (take i keys) in
      let parts : flat_map (tops t) (take (i + 1) keys) ≡ before ++ tops t key =
      ap (flat_map (tops t)) (take_more keys i 0 inside) ∙ flat_map-append (tops t) (take i keys) (key ∷ []) ∙ ap (λ (ks : List ℕ). before ++ ks) (append-nil (tops t key)) in
      let place : length old ≡ length old + 0 = omega arith in
      subst (AreBelow t None 0 (flat_map (tops t) (take (i + 1) keys))) (sym grown)
      (subst (λ (ks : List ℕ). AreBelow t None 0 ks (old ++ more)) (sym parts)
      (below_append None 0 before (tops t key) old more a (subst (λ (k : ℕ). AreBelow t None k (tops t key) more) place b)))

  -- the entries of an object follow the others
  abbrev pub Follows : ℕ → List Below → List Below → Type 0
  Follows key old new = (more : List Below) × (new ≡ old ++ more) × AreBelow t None (length old) (tops t key) more

  pub root_object : (key : ℕ) (old new : List Below) → key ≡ root t → HasGrown t None key old new → Follows key old new
  root_object key old new is g =
      let all : tops t key ≡ entries t key = ap (λ (b : Bool). if b then entries t key else key ∷ []) (eq-eqb key (root t) is) in
      (g.more, g.grown, subst (λ (ks : List ℕ). AreBelow t None (length old) ks g.more) (sym all) g.below)

  pub entry_object : (key : ℕ) (old mid new : List Below) → key ≢ root t → mid ≡ old ++ placed None key ∷ [] → HasGrown t (Some (length old)) key mid new → Follows key old new
  entry_object key old mid new other first g =
      let itself : tops t key ≡ key ∷ [] = ap (λ (b : Bool). if b then entries t key else key ∷ []) (ne_eqb key (root t) other) in
      let place : length mid ≡ suc (length old) = omega (arith, ap length first, length-append old (placed None key ∷ [])) in
      let below : AreBelow t (Some (length old)) (suc (length old)) (entries t key) g.more = subst (λ (k : ℕ). AreBelow t (Some (length old)) k (entries t key) g.more) place g.below in (
        placed None key ∷ g.more,
        g.grown ∙ ap (λ (es : List Below). es ++ g.more) first ∙ append_assoc old (placed None key ∷ []) g.more,
        subst (λ (ks : List ℕ). AreBelow t None (length old) ks (placed None key ∷ g.more)) (sym itself)
            (subst (λ (es : List Below). AreBelow t None (length old) (key ∷ []) (placed None key ∷ es)) (append-nil g.more) (entry below none)),
      )

  -- each directory is before the end of the list
  pub all_before : (n : ℕ) (above : Option ℕ) (at : ℕ) (keys : List ℕ) (es : List Below) → IfSome above (λ k. k < n) → length es + at ≤ n → AreBelow t above at keys es → All (IsBefore n) es
  all_before n above at [] [] up most none = All-nil (IsBefore n)
  all_before n above at [] (_ ∷ _) up most a = elim a [ ]
  all_before n above at (key ∷ keys) _ up most (entry {inner = inner} {others = others} i o) =
      All-cons (IsBefore n) (placed above key) (inner ++ others) up
      (All-append (IsBefore n) inner others
      (all_before n (Some at) (suc at) (entries t key) inner (omega (arith, most, length-append inner others)) (omega (arith, most, length-append inner others)) i)
      (all_before n above (length inner + suc at) keys others up (omega (arith, most, length-append inner others)) o))

  abbrev IsThere : ℕ → Type 0
  IsThere key = IsSome (t.nodes key)

  module _ (proper : Proper t) where
    entries_there : (dir : ℕ) → All IsThere (entries t dir)
    entries_there dir = all_of IsThere (entries t dir) (λ k m. let n = entry_node t proper dir k m in ap is_some n.1)

    -- each entry has a node if the first ones have
    below_there : (above : Option ℕ) (at : ℕ) (keys : List ℕ) (es : List Below) → All IsThere keys → AreBelow t above at keys es → All (λ e. IsThere e.key) es
    below_there above at [] [] there none = All-nil (λ e. IsThere e.key)
    below_there above at [] (_ ∷ _) there a = elim a [ ]
    below_there above at (key ∷ keys) _ there (entry {inner = inner} {others = others} i o) =
        All-cons (λ e. IsThere e.key) (placed above key) (inner ++ others) (All-head IsThere key keys there)
        (All-append (λ e. IsThere e.key) inner others
        (below_there (Some at) (suc at) (entries t key) inner (entries_there key) i)
        (below_there above (length inner + suc at) keys others (All-tail IsThere key keys there) o))

    tops_there : (keys : List ℕ) → All IsThere keys → All IsThere (flat_map (tops t) keys)
    tops_there [] there = All-nil IsThere
    tops_there (key ∷ keys) there = All-append IsThere (tops t key) (flat_map (tops t) keys) (one (key == root t)) (tops_there keys (All-tail IsThere key keys there))
      where
        one : (b : Bool) → All IsThere (if b then entries t key else key ∷ [])
        one true = entries_there key
        one false = All-cons IsThere key [] (All-head IsThere key keys there) (All-nil IsThere)

    all_there : (keys : List ℕ) (es : List Below) → All (λ key. IsSome (t.nodes key)) keys → AreBelow t None 0 (flat_map (tops t) keys) es → All (λ e. IsSome (t.nodes e.key)) es
    all_there keys es there b = below_there None 0 (flat_map (tops t) keys) es (tops_there keys there) b

-- the entries found for objects of the image are in it
pub found_there : (image keys : List ℕ) (found : List Below) → All (HasKey image) keys → ((t : Tree) → Stands image t → AreBelow t None 0 (flat_map (tops t) keys) found) → All (λ e. HasKey image e.key) found
found_there image keys found there below = λ k d inside t s. all_there t s.proper keys found (λ i e l. there i e l t s) (below t s) k d inside

-- the sources of entries of the image are in it
pub sources_there : (image : List ℕ) (notes : Bool) (es : List Below) → All (λ e. HasKey image e.key) es → All (HasSource image) (flat_map (sources_of notes) es)
sources_there image notes [] there = All-nil (HasSource image)
sources_there image notes (e ∷ es) there =
    All-append (HasSource image) (sources_of notes e) (flat_map (sources_of notes) es) (own notes) (sources_there image notes es (All-tail (λ f. HasKey image f.key) e es there))
  where
    here : HasKey image e.key
    here = All-head (λ f. HasKey image f.key) e es there

    own : (b : Bool) → All (HasSource image) (sources_of b e)
    own true = All-cons (HasSource image) (Entry e.key) (Note e.key ∷ []) here (All-cons (HasSource image) (Note e.key) [] here (All-nil (HasSource image)))
    own false = All-cons (HasSource image) (Entry e.key) [] here (All-nil (HasSource image))
