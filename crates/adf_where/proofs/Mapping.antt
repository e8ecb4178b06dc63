-- Maps: what blocks are by the places that name them, and letters in columns.
use Rattle.adf_where.proofs.Common.{◌≡◌, ℕ, zero, suc, ◌+◌, ◌<◌, ◌≤◌, inl, inr, Bool, List, [], ◌∷◌, ◌++◌, map, get_or, get_or_default, Contains, refl, sym, ap, ◌∙◌, subst, arith, append_assoc, flat_map, AllZip, all_zipped_more, AreAllPlaces, Place}
use Rattle.std.specs.Prelude.{◌≢◌, Some, slice_get}
use Rattle.std.proofs.lemmas.Option.{get_or_from_slice_get, slice_get_within}
use Rattle.std.specs.List.{range_with_len}
use Rattle.std.proofs.Common.{append-nil}
use Rattle.std.proofs.lemmas.List.Concat.{flat_map-append}
use Rattle.std.proofs.lemmas.List.FromFn.{map-range_with_len_more}
use Rattle.ados_census.specs.Places.{NamesBlock, position, rank}
use Rattle.ados_census.specs.declared.place.PlaceKind.{PlaceKind}
use Rattle.ados_census.specs.declared.place.PlaceKind.TheVariants as kinds
use Rattle.ados_model.specs.Faults.{InImage, root_of}
use Rattle.adf_where.specs.declared.block_mark.BlockMark.{BlockMark}
use Rattle.adf_where.specs.declared.block_mark.BlockMark.TheVariants as marks
use Rattle.adf_where.specs.FaultyMap.{HasLetter, HasMark, IsByPlace, IsNamedOnce, IsNamedTwice, IsPlain, ShowsAt}
use Rattle.adf_where.specs.steps.Named.{AreOneLong, IsMarkOf}

-- ---- one more of a range

last : (a n j : ℕ) → a + n ≡ j → range_with_len a (suc n) ≡ range_with_len a n ++ j ∷ []
last a zero j e = let same : a ≡ j = omega (arith, e) in ap (λ (k : ℕ). k ∷ []) same
last a (suc n) j e = ap (λ (l : List ℕ). a ∷ l) (last (a + 1) n j (omega (arith, e)))

range_more : (a n j : ℕ) → a + n ≡ j → range_with_len a (n + 1) ≡ range_with_len a n ++ j ∷ []
range_more a n j e = let on : n + 1 ≡ suc n = omega arith in ap (range_with_len a) on ∙ last a n j e

-- one more letter of a line
pub column_more : (f : ℕ → ℕ) (before now new : List ℕ) (i x : ℕ) → now ≡ before ++ map f (range_with_len 0 i) → new ≡ now ++ x ∷ [] → x ≡ f i → new ≡ before ++ map f (range_with_len 0 (i + 1))
column_more f before now new i x is grown at =
    grown ∙ ap (λ (l : List ℕ). l ++ x ∷ []) is ∙ append_assoc before (map f (range_with_len 0 i)) (x ∷ []) ∙ ap (λ (y : ℕ). before ++ (map f (range_with_len 0 i) ++ y ∷ [])) at
    ∙ ap (λ (l : List ℕ). before ++ l) (sym (map-range_with_len_more f 0 i i (omega arith)))

-- one more line
pub line_more : (f : ℕ → List ℕ) (before now new : List ℕ) (i : ℕ) → now ≡ before ++ flat_map f (range_with_len 0 i) → new ≡ now ++ f i → new ≡ before ++ flat_map f (range_with_len 0 (i + 1))
line_more f before now new i is grown =
    let done = flat_map f (range_with_len 0 i) in
    let more : flat_map f (range_with_len 0 (i + 1)) ≡ done ++ f i =
    ap (flat_map f) (range_more 0 i i (omega arith)) ∙ flat_map-append f (range_with_len 0 i) (i ∷ []) ∙ ap (λ (l : List ℕ). done ++ l) (append-nil (f i)) in
    grown ∙ ap (λ (l : List ℕ). l ++ f i) is ∙ append_assoc before done (f i) ∙ ap (λ (l : List ℕ). before ++ l) (sym more)

-- the letter of one more block
pub letter_more : (image : List ℕ) (unread : List Bool) (n : ℕ) (before after : List ℕ) (shown : ℕ) → AllZip (HasLetter image unread) (range_with_len 0 n) before → HasLetter image unread n shown → after ≡ before ++ shown ∷ []
    → AllZip (HasLetter image unread) (range_with_len 0 (n + 1)) after
letter_more image unread n before after shown done here is =
    subst (λ (l : List ℕ). AllZip (HasLetter image unread) (range_with_len 0 (n + 1)) l) (sym is)
    (subst (λ (blocks : List ℕ). AllZip (HasLetter image unread) blocks (before ++ shown ∷ [])) (sym (range_more 0 n n (omega arith)))
    (all_zipped_more (HasLetter image unread) (range_with_len 0 n) before n shown done here))

-- ---- what a block is by all places that name it

-- what a place of a kind makes of it
of_kind : (image : List ℕ) (block : ℕ) (kind : PlaceKind) (mark : BlockMark) → IsNamedOnce image block kind → IsMarkOf image block kind mark → IsByPlace image block mark
of_kind image block kinds.Page mark once is = subst (IsByPlace image block) (sym is) once
of_kind image block kinds.Extension mark once is = subst (IsByPlace image block) (sym is) once
of_kind image block kinds.Data mark once is = subst (IsByPlace image block) (sym is) once
of_kind image block kinds.Entry mark once (inl (is, file)) = subst (IsByPlace image block) (sym is) (inl once, file)
of_kind image block kinds.Entry mark once (inr (is, other)) = subst (IsByPlace image block) (sym is) (inl once, other)
of_kind image block kinds.NextEntry mark once (inl (is, file)) = subst (IsByPlace image block) (sym is) (inr once, file)
of_kind image block kinds.NextEntry mark once (inr (is, other)) = subst (IsByPlace image block) (sym is) (inr once, other)

plain_by_place : (image : List ℕ) (block : ℕ) (mark : BlockMark) → InImage image block → block ≢ root_of image → IsByPlace image block mark → IsPlain image block mark
plain_by_place image block marks.Boot inside other is = absurd is
plain_by_place image block marks.Root inside other is = absurd is
plain_by_place image block mark inside other is = (inside, other, is)

-- a block that is named once at most, without a known fault
pub plain_marked : (image : List ℕ) (block : ℕ) (mark : BlockMark) → ¬ IsNamedTwice image block → (¬ ShowsAt image block) → IsPlain image block mark → HasMark image block mark
plain_marked image block marks.Twice once sound is = absurd is.2
plain_marked image block marks.Faulty once sound is = absurd is.2
plain_marked image block mark once sound is = (once, sound, is)

module _ (image : List ℕ) (block : ℕ) (places : List Place) (all : AreAllPlaces image block places) where
  named_at : (one : Place) → Contains places one → NamesBlock image block one
  named_at one (k, l, is) = subst (NamesBlock image block) is (all.named k one l)

  pub not_twice : (InImage image block → AreOneLong places) → ¬ IsNamedTwice image block
  not_twice same two = two.apart (same two.inside two.one two.other (all.all two.one two.first) (all.all two.other two.second))

  -- the first of the places
  module _ (place : Place) (first : Some place ≡ slice_get places 0) (same : AreOneLong places) where
    is : place ≡ get_or places 0 place
    is = sym (get_or_from_slice_get places 0 place place (sym first))

    there : Contains places place
    there = (0, slice_get_within places 0 place (sym first), sym is)

    lowest : (other : Place) → Contains places other → position place ≤ position other
    lowest other (zero, l, e) = let one : place ≡ other = is ∙ get_or_default places 0 place other l ∙ e in omega (arith, ap position one)
    lowest other (suc k, l, e) =
        let low : position (get_or places 0 place) < position (get_or places (suc k) place) = all.in_order 0 (suc k) place (omega arith) l in
        let at : get_or places (suc k) place ≡ other = get_or_default places (suc k) place other l ∙ e in
        omega (arith, low, ap position is, ap position at)

    first_rank : (other : Place) → Contains places other → rank place.kind ≤ rank other.kind
    first_rank other c =
        let long = same place other there c in
        omega (arith, lowest other c, long.0, long.1)

    once : IsNamedOnce image block place.kind
    once = record {
      place = place;
      names = named_at place there;
      makes = refl;
      alone = λ other names. same other place (all.all other names) there;
      first = λ other names. first_rank other (all.all other names);
    }

    pub plain_named : (mark : BlockMark) → InImage image block → block ≢ root_of image → IsMarkOf image block place.kind mark → IsPlain image block mark
    plain_named mark inside other of = plain_by_place image block mark inside other (of_kind image block place.kind mark once of)
