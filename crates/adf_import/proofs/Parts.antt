-- The parts of a path, and the steps of each.
use Rattle.std.proofs.Common.{◌≡◌, ◌≢◌, ℕ, suc, ◌+◌, ◌-◌, ◌<◌, ◌≤◌, Bool, true, false, not, ◌||◌, ◌&&◌, List, [], ◌∷◌, ◌++◌, length, get_or, take, drop, refl, sym, ap, ◌∙◌, subst, arith, append_assoc}
use Rattle.adf_import.proofs.Common.{true≢false}
use Rattle.std.proofs.Math.Bool.{or-true}
use Rattle.std.proofs.lemmas.Bool.{false_from_ne_true, ne_eqb}
use Rattle.std.proofs.lemmas.Grind.{common_steps}
use Rattle.std.proofs.lemmas.List.{drop_at, get_or_append_left, get_or_at, length-drop, length-take-le, length_push, take-append-drop, take-take, take_all, take_more}
use Rattle.std.proofs.lemmas.List.Elements.{All-from_get_or}
use Rattle.std.proofs.lemmas.List.Folds.{list_any-append, list_any_at, list_any_none}
use Rattle.std.proofs.lemmas.List.Sums.{position_or_len_is, suffix_len-le-length}
use Rattle.std.specs.Prelude.{All, slice_index}
use Rattle.std.specs.List.{after_first, list_any, position_or_len, slice_split, suffix_len}
use Rattle.ados_name.specs.Name.{Step, Step.ToChild, Step.ToParent, front, is_colon, is_from_root, is_separator, is_slash, last_name, steps, steps_along, steps_of_parts}
use Rattle.std.proofs.lemmas.List.Splits.{length-slice_split, slice_split_at, slice_split_none}
use Rattle.adf_import.specs.Ways.{ends_front, fronts_before}
use Rattle.adf_import.specs.steps.Reached.{IsBegin, IsClosed}
use Rattle.adf_import.proofs.MissingAbove.{no_front}

-- a byte of a list that has none that passes
pub lacks : (p : ℕ → Bool) (xs : List ℕ) → list_any p xs ≡ false → (k : ℕ) → k < length xs → p (get_or xs k 0) ≡ false
lacks p xs none k inside = false_from_ne_true (p (get_or xs k 0)) (λ is. true≢false (sym (list_any_at p xs k 0 inside is) ∙ none))

-- no byte passes a stronger test
stronger : (p q : ℕ → Bool) → ((c : ℕ) → q c ≡ true → p c ≡ true) → (xs : List ℕ) → list_any p xs ≡ false → list_any q xs ≡ false
stronger p q from xs none =
    list_any_none q xs (All-from_get_or (λ x. q x ≡ false) xs 0 (λ k inside. false_from_ne_true (q (get_or xs k 0)) (λ is. true≢false (sym (from (get_or xs k 0) is) ∙ lacks p xs none k inside))))

slashless : (xs : List ℕ) → list_any is_separator xs ≡ false → list_any is_slash xs ≡ false
slashless = stronger is_separator is_slash (λ c is. ap (λ (b : Bool). b || is_colon c) is)

pub colonless : (xs : List ℕ) → list_any is_separator xs ≡ false → list_any is_colon xs ≡ false
colonless = stronger is_separator is_colon (λ c is. ap (λ (b : Bool). is_slash c || b) is ∙ or-true (is_slash c))

-- ---- behind the first byte that passes

module _ (p : ℕ → Bool) (xs : List ℕ) (none : list_any p xs ≡ false) (c : ℕ) (more : List ℕ) (is : p c ≡ true) where
  place : position_or_len p (xs ++ c ∷ more) ≡ length xs
  place =
      position_or_len_is p (xs ++ c ∷ more) (length xs) 0 (grind (arith, common_steps))
      (λ k inside. subst (λ (x : ℕ). p x ≡ false) (sym (get_or_append_left xs (c ∷ more) 0 k inside)) (lacks p xs none k inside))
      (λ _. subst (λ (x : ℕ). p x ≡ true) (sym (get_or_at xs c more 0 (length xs) refl)) is)

  after_at : after_first p (xs ++ c ∷ more) ≡ more
  after_at =
      ap (λ (n : ℕ). drop (n + 1) (xs ++ c ∷ more)) place
      ∙ ap (drop (length xs + 1)) (sym (append_assoc xs (c ∷ []) more)) ∙ drop_at (xs ++ c ∷ []) more (length xs + 1) (length_push xs c)

-- ---- the steps of a text

-- the step of a part
abbrev pub taken : List ℕ → Step
taken [] = ToParent
taken (c ∷ cs) = ToChild (c ∷ cs)

part_step : (part : List ℕ) (parts : List (List ℕ)) → 0 < length parts → steps_of_parts (part ∷ parts) ≡ taken part ∷ steps_of_parts parts
part_step [] [] more = absurd (omega (arith, more))
part_step [] (next ∷ rest) more = refl
part_step (c ∷ cs) parts more = refl

each_plain : (xs : List ℕ) → list_any is_slash xs ≡ false → All (λ x. is_slash x ≡ false) xs
each_plain xs none = All-from_get_or (λ x. is_slash x ≡ false) xs 0 (λ k inside. lacks is_slash xs none k inside)

pub empty_steps : steps_along [] ≡ []
unfolding steps_along
empty_steps = refl

-- of a part, a `/` and what is behind
slash_step : (last more : List ℕ) → list_any is_slash last ≡ false → steps_along (last ++ 47 ∷ more) ≡ taken last ∷ steps_along more
unfolding steps_along
slash_step last more none =
    ap steps_of_parts (slice_split_at is_slash last 47 more (each_plain last none) refl)
    ∙ part_step last (slice_split is_slash more) (omega (arith, length-slice_split is_slash more))

-- of a part alone
pub last_step : (c : ℕ) (cs : List ℕ) → list_any is_separator (c ∷ cs) ≡ false → steps_along (c ∷ cs) ≡ ToChild (c ∷ cs) ∷ []
unfolding steps_along
last_step c cs plain = ap steps_of_parts (slice_split_none is_slash (c ∷ cs) (each_plain (c ∷ cs) (slashless (c ∷ cs) plain)))

-- a part behind a text that ends before a part
module _ (before last : List ℕ) (closed : IsClosed before) (plain : list_any is_separator last ≡ false) where
  pub steps_before : steps (before ++ last) ≡ steps before ++ steps_along last
  steps_before = closed last (colonless last plain)

  adds : (more : List ℕ) → list_any is_colon more ≡ false → steps (before ++ (last ++ 47 ∷ more)) ≡ steps before ++ taken last ∷ steps_along more
  adds more none =
      closed (last ++ 47 ∷ more) (list_any-append is_colon last (47 ∷ more) ∙ ap (λ (b : Bool). b || list_any is_colon (47 ∷ more)) (colonless last plain) ∙ none)
      ∙ ap (λ (ss : List Step). steps before ++ ss) (slash_step last more (slashless last plain))

  pub steps_behind : steps (before ++ (last ++ 47 ∷ [])) ≡ steps before ++ taken last ∷ []
  steps_behind = adds [] refl ∙ ap (λ (ss : List Step). steps before ++ taken last ∷ ss) empty_steps

  pub closed_behind : IsClosed (before ++ (last ++ 47 ∷ []))
  closed_behind = λ more none.
      ap steps (append_assoc before (last ++ 47 ∷ []) more ∙ ap (λ (xs : List ℕ). before ++ xs) (append_assoc last (47 ∷ []) more)) ∙ adds more none
      ∙ sym (ap (λ (ss : List Step). ss ++ steps_along more) steps_behind ∙ append_assoc (steps before) (taken last ∷ []) (steps_along more))

-- ---- the last part before a `/` of a path

module _ (path : List ℕ) (at len : ℕ) (within : len ≤ at) (counted : length (front (take at path)) ≡ len) where
  abbrev last : List ℕ
  last = last_name (take at path)

  split : (f : List ℕ) → (n : ℕ) × (n ≤ length f) × (front f ≡ take n f) × (take n f ++ last_name f ≡ f)
  unfolding front last_name
  split f =
      let k = length f - suffix_len (λ x. not (is_separator x)) f in
      let same : length f - length (drop k f) ≡ k = omega (arith, length-drop k f, suffix_len-le-length (λ x. not (is_separator x)) f) in
      (k, omega arith, ap (λ (n : ℕ). take n f) same, take-append-drop k f)

  is_len : (split (take at path)).0 ≡ len
  is_len = let s = split (take at path) in sym (length-take-le s.0 (take at path) s.1) ∙ ap length (sym s.2) ∙ counted

  pub front_is : front (take at path) ≡ take len path
  front_is = (split (take at path)).2 ∙ ap (λ (n : ℕ). take n (take at path)) is_len ∙ take-take len at path within

  pub whole : take at path ≡ take len path ++ last
  whole = sym ((split (take at path)).3) ∙ ap (λ (xs : List ℕ). xs ++ last) (ap (λ (n : ℕ). take n (take at path)) is_len ∙ take-take len at path within)

  pub whole_slash : at < length path → slice_index path at ≡ 47 → take (at + 1) path ≡ take len path ++ (last ++ 47 ∷ [])
  whole_slash inside slash =
      take_more path at 0 inside ∙ ap (λ (c : ℕ). take at path ++ c ∷ []) slash ∙ ap (λ (xs : List ℕ). xs ++ 47 ∷ []) whole ∙ append_assoc (take len path) last (47 ∷ [])

-- ---- where the steps of a path begin

-- the bytes before this one have no `:`, and if there is one later, no path of a directory ends before this byte
pub record NoColon (path : List ℕ) (at : ℕ) : Type 0 where
  pub plain : list_any is_colon (take at path) ≡ false
  pub none : is_from_root path ≡ true → fronts_before path at ≡ []

module _ (path : List ℕ) where
  no_front_yet : (at : ℕ) → NoColon path at → is_from_root path ≡ true → fronts_before path (at + 1) ≡ []
  no_front_yet at h named =
      let e : suc at ≡ at + 1 = omega arith in
      let ends : ends_front path at ≡ false =
      ap (λ (b : Bool). is_slash (slice_index path at) && (b || not (is_from_root path))) h.plain ∙ ap (λ (b : Bool). is_slash (slice_index path at) && (not b)) named ∙ and_false (is_slash (slice_index path at)) in
      ap (λ (n : ℕ). fronts_before path n) (sym e) ∙ no_front path at ends ∙ h.none named
    where
      and_false : (b : Bool) → (b && false) ≡ false
      and_false true = refl
      and_false false = refl

  pub colon_none : NoColon path 0
  colon_none = record { plain = refl; none = λ _. refl }

  pub colon_later : (at : ℕ) → at < length path → NoColon path at → slice_index path at ≢ 58 → NoColon path (at + 1)
  colon_later at inside h other = record {
    plain = ap (list_any is_colon) (take_more path at 0 inside) ∙ list_any-append is_colon (take at path) (slice_index path at ∷ []) ∙ ap (λ (b : Bool). b || list_any is_colon (slice_index path at ∷ [])) h.plain ∙ ap (λ (b : Bool). b || false) (ne_eqb (slice_index path at) 58 other);
    none = no_front_yet at h;
  }

  -- behind the first `:`
  module _ (at : ℕ) (inside : at < length path) (h : NoColon path at) (is : slice_index path at ≡ 58) where
    head : take (at + 1) path ≡ take at path ++ 58 ∷ []
    head = take_more path at 0 inside ∙ ap (λ (c : ℕ). take at path ++ c ∷ []) is

    has_colon : (more : List ℕ) → is_from_root (take at path ++ 58 ∷ more) ≡ true
    has_colon more = list_any-append is_colon (take at path) (58 ∷ more) ∙ or-true (list_any is_colon (take at path))

    named : (i : ℕ) → at + 1 ≤ i → is_from_root (take i path) ≡ true
    named i later =
        ap is_from_root (sym (take-append-drop (at + 1) (take i path)) ∙ ap (λ (xs : List ℕ). xs ++ drop (at + 1) (take i path)) (take-take (at + 1) i path later ∙ head) ∙ append_assoc (take at path) (58 ∷ []) (drop (at + 1) (take i path)))
        ∙ has_colon (drop (at + 1) (take i path))

    from_root : is_from_root path ≡ true
    from_root = ap is_from_root (sym (take_all (length path) path (omega arith))) ∙ named (length path) (omega (arith, inside))

    behind : (more : List ℕ) → steps (take at path ++ 58 ∷ more) ≡ steps_along more
    unfolding steps
    behind more = rw (has_colon more) (ap steps_along (after_at is_colon (take at path) h.plain 58 more refl))

    pub begins_behind : IsBegin path (at + 1)
    begins_behind = record {
      within = omega (arith, inside);
      none = no_front_yet at h from_root;
      slashes = λ i later within. ap (λ (b : Bool). is_slash (slice_index path i) && (b || not (is_from_root path))) (named i later) ∙ and_true (is_slash (slice_index path i));
      closed = λ more none.
          ap steps (ap (λ (xs : List ℕ). xs ++ more) head ∙ append_assoc (take at path) (58 ∷ []) more) ∙ behind more
          ∙ ap (λ (ss : List Step). ss ++ steps_along more) (sym empty_steps ∙ sym (behind []) ∙ ap steps (sym head));
      no_steps = ap steps head ∙ behind [] ∙ empty_steps;
    }
      where
        and_true : (b : Bool) → (b && true) ≡ b
        and_true true = refl
        and_true false = refl

  -- at the first byte
  plain_steps : (more : List ℕ) → list_any is_colon more ≡ false → steps more ≡ steps_along more
  unfolding steps
  plain_steps more none = rw none refl

  pub begins_first : (at : ℕ) → length path ≤ at → NoColon path at → IsBegin path 0
  begins_first at end h = record {
    within = omega arith;
    none = refl;
    slashes = λ i later within. ap (λ (b : Bool). is_slash (slice_index path i) && (is_from_root (take i path) || not b)) unnamed ∙ with_true (is_slash (slice_index path i)) (is_from_root (take i path));
    closed = λ more plain. plain_steps more plain ∙ ap (λ (ss : List Step). ss ++ steps_along more) (sym empty_steps ∙ sym (plain_steps [] refl));
    no_steps = plain_steps [] refl ∙ empty_steps;
  }
    where
      unnamed : is_from_root path ≡ false
      unnamed = ap is_from_root (sym (take_all at path end)) ∙ h.plain

      with_true : (a b : Bool) → (a && (b || true)) ≡ a
      with_true true true = refl
      with_true true false = refl
      with_true false b = refl
