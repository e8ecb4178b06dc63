-- The steps of the walk: a block is taken, its longs are visited one by one, and it is done.
use Rattle.ados_check.proofs.Common.{◌≡◌, ◌≢◌, ◌↔◌, ℕ, ◌+◌, ◌<◌, ◌≤◌, inl, inr, List, [], ◌∷◌, ◌++◌, length, replicate, Contains, Option, None, Some, refl, sym, ap, ◌∙◌, subst, arith, length-append, length-replicate, set, cases_eq, cases_lt, block_count, page_count, long, Role, Root, InImage, IsPlace, PlaceNames, IsUsedTwice, HasBadPointer, root_of, start, named, outside, Reached, Mark, mark_at, IsSound, root_mark, unmarked, work, ArePending, IsBetween, IsInHand, IsLeft, mark_of, Contains-append_left, Contains-push, Contains-push_cases}
use Rattle.ados_model.proofs.KeyLists.{Once-before, Once-front}
use Rattle.ados_model.specs.Faults.IsUsedTwice.{two_holders, two_longs, root_named}
use Rattle.ados_check.proofs.MarkLemmas.{IsMarkedMore, marked_more, once_pushed, none_marked, all_unmarked}
use Rattle.ados_check.proofs.PlaceLemmas.{place_within}
use Rattle.ados_check.proofs.ReachMoves.{in_hand, with_left, gone_through}

-- a marked block is not the one without a mark
fresh : (marks : List (Option Mark)) (block other : ℕ) (mark : Mark) → mark_at marks block ≡ None → mark_at marks other ≡ Some mark → other ≢ block
fresh marks block other mark none e z = let h : None ≡ Some mark = sym none ∙ sym (ap (mark_at marks) z) ∙ e in cc h

-- the pending blocks without the last
without_last : (image : List ℕ) (marks : List (Option Mark)) (rest : List ℕ) (block : ℕ) → ArePending image marks (rest ++ block ∷ []) → ArePending image marks rest
without_last image marks rest block waiting = record {
  marked = λ other q. waiting.marked other (Contains-append_left rest (block ∷ []) other q);
  once = Once-front rest (block ∷ []) waiting.once;
  room = omega (arith, waiting.room, length-append rest (block ∷ []));
}

-- longs that are no places
pub skipped_all : (image : List ℕ) (marks : List (Option Mark)) (pending : List ℕ) (hand from to : ℕ) (role : Role) → from ≤ to → ((i : ℕ) → from ≤ i → i < to → (next : Role) → ¬ IsPlace image hand role i next)
    → IsInHand image marks pending hand role from → IsInHand image marks pending hand role to
skipped_all image marks pending hand from to role order none h = record {
  mark = h.mark;
  held = h.held;
  of_role = h.of_role;
  beside = h.beside;
  waiting = h.waiting;
  but = with_left image marks (IsLeft pending hand from) (IsLeft pending hand to) (λ block j mark next e p. (
    λ l. elim l [
      | inl q ↦ inl q
      | inr a ↦ elim (cases_lt j to) [
        | inl before ↦ absurd (none j a.1 before next (subst (λ (r : Role). IsPlace image hand r j next) h.of_role (in_hand image marks hand j block j h.mark mark next h.held e a.0 refl p)))
        | inr past ↦ inr (a.0, past)
      ]
    ],
    λ l. elim l [ inl q ↦ inl q | inr a ↦ inr (a.0, omega (arith, a.1, order)) ],
  )) h.but;
}

-- a long that is no place
pub skipped : (image : List ℕ) (marks : List (Option Mark)) (pending : List ℕ) (hand i : ℕ) (role : Role) → IsInHand image marks pending hand role i → ((next : Role) → ¬ IsPlace image hand role i next) → IsInHand image marks pending hand role (i + 1)
skipped image marks pending hand i role h none =
    skipped_all image marks pending hand i (i + 1) role (omega arith)
    (λ j from to next p. let z : j ≡ i = omega (arith, from, to) in none next (subst (λ (k : ℕ). IsPlace image hand role k next) z p)) h

-- a place whose block had no mark, and is now marked and pending
module _ (image : List ℕ) (marks new : List (Option Mark)) (pending : List ℕ) (hand i : ℕ) (role next : Role)
    (h : IsInHand image marks pending hand role i) (place : IsPlace image hand role i next)
    (only : (other : Role) → IsPlace image hand role i other → other ≡ next)
    (within : InImage image (long image hand i)) (sound : IsSound image (long image hand i) next)
    (more : IsMarkedMore marks new (long image hand i) (mark_of next hand i)) where
  not_hand : hand ≢ long image hand i
  not_hand = fresh marks (long image hand i) hand h.mark more.was h.held

  not_pending : ¬ Contains pending (long image hand i)
  not_pending q = let old = h.waiting.marked (long image hand i) q in fresh marks (long image hand i) (long image hand i) old.0 more.was old.1 refl

  not_left : ¬ IsLeft (pending ++ long image hand i ∷ []) hand (i + 1) hand i
  not_left (inl q) = elim (Contains-push_cases pending (long image hand i) hand q) [ inl old ↦ h.beside old | inr z ↦ not_hand (sym z) ]
  not_left (inr a) = absurd (omega (arith, a.1))

  agree : (block j : ℕ) → block ≢ long image hand i → ¬ ((block ≡ hand) × (j ≡ i)) → IsLeft pending hand i block j ↔ IsLeft (pending ++ long image hand i ∷ []) hand (i + 1) block j
  agree block j ne other = (
    λ l. elim l [
      | inl q ↦ inl (Contains-append_left pending (long image hand i ∷ []) block q)
      | inr a ↦ elim (cases_eq j i) [ inl z ↦ absurd (other (a.0, z)) | inr apart ↦ inr (a.0, omega (arith, a.1, apart)) ]
    ],
    λ l. elim l [
      | inl q ↦ elim (Contains-push_cases pending (long image hand i) block q) [ inl old ↦ inl old | inr z ↦ absurd (ne (sym z)) ]
      | inr a ↦ inr (a.0, omega (arith, a.1))
    ],
  )

  still_marked : (block : ℕ) (mark : Mark) → mark_at marks block ≡ Some mark → mark_at new block ≡ Some mark
  still_marked block mark e = more.others block (fresh marks (long image hand i) block mark more.was e) ∙ e

  pub length_pushed : length (pending ++ long image hand i ∷ []) ≡ length pending + 1
  length_pushed = length-append pending (long image hand i ∷ [])

  waiting_more : ArePending image new (pending ++ long image hand i ∷ [])
  waiting_more = record {
    marked = λ block q. elim (Contains-push_cases pending (long image hand i) block q) [
      | inl old ↦ let was = h.waiting.marked block old in (was.0, still_marked block was.0 was.1)
      | inr z ↦ (mark_of next hand i, ap (mark_at new) (sym z) ∙ more.is)
    ];
    once = once_pushed pending (long image hand i) h.waiting.once not_pending;
    room = omega (arith, length_pushed, more.fewer, h.waiting.room);
  }

  pub took : IsInHand image new (pending ++ long image hand i ∷ []) hand role (i + 1)
  took = record {
    mark = h.mark;
    held = still_marked hand h.mark h.held;
    of_role = h.of_role;
    beside = λ q. elim (Contains-push_cases pending (long image hand i) hand q) [ inl old ↦ h.beside old | inr z ↦ not_hand (sym z) ];
    but = gone_through image marks new (IsLeft pending hand i) (IsLeft (pending ++ long image hand i ∷ []) hand (i + 1)) hand i h.mark next h.but h.held
        (subst (λ (r : Role). IsPlace image hand r i next) (sym h.of_role) place)
        (λ other p. only other (subst (λ (r : Role). IsPlace image hand r i other) h.of_role p))
        within sound more not_left (λ j. inl (Contains-push pending (long image hand i))) agree (inr (refl, omega arith));
    waiting = waiting_more;
  }

-- the same, with a name for the block
pub took_at : (image : List ℕ) (marks : List (Option Mark)) (pending pushed : List ℕ) (hand i : ℕ) (role next : Role) (block : ℕ) → block ≡ long image hand i
    → IsInHand image marks pending hand role i → IsPlace image hand role i next → ((other : Role) → IsPlace image hand role i other → other ≡ next)
    → InImage image block → IsSound image block next → mark_at marks block ≡ None → pushed ≡ pending ++ block ∷ []
    → IsInHand image (set marks block (Some (mark_of next hand i))) pushed hand role (i + 1)
took_at image marks pending pushed hand i role next block e h place only within sound none added =
    let inside : InImage image (long image hand i) = subst (λ (b : ℕ). InImage image b) e within in
    let there : long image hand i < length marks = omega (arith, inside.1, h.but.size) in
    let more = marked_more marks (long image hand i) (mark_of next hand i) there (sym (ap (mark_at marks) e) ∙ none) in
    let moved = took image marks (set marks (long image hand i) (Some (mark_of next hand i))) pending hand i role next h place only inside (subst (λ (b : ℕ). IsSound image b next) e sound) more in
    subst (λ (xs : List ℕ). IsInHand image (set marks block (Some (mark_of next hand i))) xs hand role (i + 1)) (sym added)
    (subst (λ (b : ℕ). IsInHand image (set marks b (Some (mark_of next hand i))) (pending ++ b ∷ []) hand role (i + 1)) (sym e) moved)

-- what is left to do after a mark
pub marked_less : (marks : List (Option Mark)) (block : ℕ) (mark : Mark) → block < length marks → mark_at marks block ≡ None → unmarked (set marks block (Some mark)) + 1 ≡ unmarked marks
marked_less marks block mark l none = (marked_more marks block mark l none).fewer

pub took_less : (marks : List (Option Mark)) (pending pushed : List ℕ) (block : ℕ) (mark : Mark) → block < length marks → mark_at marks block ≡ None → pushed ≡ pending ++ block ∷ [] → work (set marks block (Some mark)) pushed ≤ work marks pending
took_less marks pending pushed block mark l none added =
    let pushed_one : length pushed ≡ length pending + 1 = ap length added ∙ length-append pending (block ∷ []) in
    omega (arith, marked_less marks block mark l none, pushed_one)

-- a block whose role has no places need not be pending
not_waiting : (image : List ℕ) (marks : List (Option Mark)) (pending : List ℕ) (block hand from : ℕ) (role : Role) (mark : Mark) → mark_at marks block ≡ Some mark → ((i : ℕ) (next : Role) → ¬ IsPlace image block mark.role i next)
    → IsInHand image marks (pending ++ block ∷ []) hand role from → IsInHand image marks pending hand role from
not_waiting image marks pending block hand from role mark at none h = record {
  mark = h.mark;
  held = h.held;
  of_role = h.of_role;
  beside = λ q. h.beside (Contains-append_left pending (block ∷ []) hand q);
  but = with_left image marks (IsLeft (pending ++ block ∷ []) hand from) (IsLeft pending hand from) (λ other i m next e p. (
    λ l. elim l [
      | inl q ↦ elim (Contains-push_cases pending block other q) [ inl old ↦ inl old | inr z ↦ absurd (none i next (in_hand image marks block i other i mark m next at e (sym z) refl p)) ]
      | inr a ↦ inr a
    ],
    λ l. elim l [ inl q ↦ inl (Contains-append_left pending (block ∷ []) other q) | inr a ↦ inr a ],
  )) h.but;
  waiting = without_last image marks pending block h.waiting;
}

module _ (image : List ℕ) (marks : List (Option Mark)) where
  -- a place whose block is now marked and has no places itself
  pub took_unplaced : (pending : List ℕ) (hand i : ℕ) (role next : Role) (block : ℕ) → block ≡ long image hand i
      → IsInHand image marks pending hand role i → IsPlace image hand role i next → ((other : Role) → IsPlace image hand role i other → other ≡ next)
      → InImage image block → IsSound image block next → mark_at marks block ≡ None → ((j : ℕ) (other : Role) → ¬ IsPlace image block next j other)
      → IsInHand image (set marks block (Some (mark_of next hand i))) pending hand role (i + 1)
  took_unplaced pending hand i role next block e h place only within sound none unplaced =
      let there : block < length marks = omega (arith, within.1, h.but.size) in
      not_waiting image (set marks block (Some (mark_of next hand i))) pending block hand (i + 1) role (mark_of next hand i)
      (marked_more marks block (mark_of next hand i) there none).is unplaced
      (took_at image marks pending (pending ++ block ∷ []) hand i role next block e h place only within sound none refl)

  -- the last pending block is taken
  pub taken_up : (rest : List ℕ) (block : ℕ) (mark : Mark) → page_count (block_count image) ≤ 25 → IsBetween image marks (rest ++ block ∷ []) → mark_at marks block ≡ Some mark → IsInHand image marks rest block mark.role 6
  taken_up rest block mark pages b e = record {
    mark = mark;
    held = e;
    of_role = refl;
    beside = Once-before rest block [] b.waiting.once;
    but = with_left image marks (λ other i. Contains (rest ++ block ∷ []) other) (IsLeft rest block 6) (λ other i m next at p. (
      λ l. elim (Contains-push_cases rest block other l) [ inl old ↦ inl old | inr z ↦ inr (sym z, (place_within p pages).0) ],
      λ l. elim l [
        | inl q ↦ Contains-append_left rest (block ∷ []) other q
        | inr a ↦ subst (λ (x : ℕ). Contains (rest ++ block ∷ []) x) (sym a.0) (Contains-push rest block)
      ],
    )) b.but;
    waiting = without_last image marks rest block b.waiting;
  }

  -- a visited block is done
  pub put_away : (pending : List ℕ) (hand : ℕ) (role : Role) → page_count (block_count image) ≤ 25 → IsInHand image marks pending hand role 127 → IsBetween image marks pending
  put_away pending hand role pages h = record {
    but = with_left image marks (IsLeft pending hand 127) (λ block i. Contains pending block) (λ block i m next at p. (
      λ l. elim l [ inl q ↦ q | inr a ↦ absurd (omega (arith, a.1, (place_within p pages).1)) ],
      λ q. inl q,
    )) h.but;
    waiting = h.waiting;
  }

  -- the block in hand is reached in its role
  in_role : {pending : List ℕ} {hand i : ℕ} {role : Role} → IsInHand image marks pending hand role i → Reached image hand role
  in_role {hand = hand} h = subst (Reached image hand) h.of_role (h.but.reached hand h.mark h.held)

  pub reached_next : (pending : List ℕ) (hand i : ℕ) (role next : Role) (block : ℕ) → block ≡ long image hand i → IsInHand image marks pending hand role i → IsPlace image hand role i next → InImage image block → Reached image block next
  reached_next pending hand i role next block e h place within = subst (λ (b : ℕ). Reached image b next) (sym e) (named (in_role h) place (subst (InImage image) e within))

  pub points_outside : (pending : List ℕ) (hand i : ℕ) (role next : Role) → IsInHand image marks pending hand role i → IsPlace image hand role i next → ¬ InImage image (long image hand i) → HasBadPointer image hand
  points_outside pending hand i role next h place not_in = outside (in_role h) place not_in

  -- the place names a block that is already marked, with another place or as the root
  pub used_twice : (pending : List ℕ) (hand i : ℕ) (role next : Role) (block : ℕ) (mark : Mark) → block ≡ long image hand i → IsInHand image marks pending hand role i → IsPlace image hand role i next → InImage image block → mark_at marks block ≡ Some mark → IsUsedTwice image block
  used_twice pending hand i role next block mark is h place within e =
      let here : PlaceNames image hand i block = record {
        role = role;
        next = next;
        reached = in_role h;
        place = place;
        names = sym is;
      } in
      elim (h.but.noted block mark e) [
        | inl root ↦ root_named root here
        | inr n ↦
            let there : PlaceNames image mark.holder mark.long block = record {
              role = n.holder.role;
              next = mark.role;
              reached = h.but.reached mark.holder n.holder n.held;
              place = n.place;
              names = n.names;
            } in
            elim (cases_eq mark.holder hand) [
              | inl z ↦ two_longs within (subst (λ (b : ℕ). PlaceNames image b mark.long block) z there) here (λ f. n.passed (inr (z, omega (arith, f))))
              | inr ne ↦ two_holders within (mark.long, there) (i, here) ne
            ]
      ]

-- only the root is marked
module _ (image : List ℕ) (n : ℕ) (new : List (Option Mark)) (size : n ≡ block_count image) (more : IsMarkedMore (replicate n None) new (root_of image) root_mark) (sound : IsSound image (root_of image) Root) where
  only_root : (block : ℕ) (mark : Mark) → mark_at new block ≡ Some mark → (block ≡ root_of image) × (mark ≡ root_mark)
  only_root block mark e = elim (cases_eq block (root_of image)) [
    | inl z ↦ let h : Some mark ≡ Some root_mark = sym e ∙ ap (mark_at new) z ∙ more.is in (z, cc h)
    | inr ne ↦ let h : Some mark ≡ None = sym e ∙ more.others block ne ∙ none_marked n block in absurd (cc h)
  ]

  root_pending : (block : ℕ) (mark : Mark) → mark_at new block ≡ Some mark → Contains (root_of image ∷ []) block
  root_pending block mark e = subst (λ (x : ℕ). Contains (root_of image ∷ []) x) (sym (only_root block mark e).0) (0, omega arith, refl)

  pub begun : IsBetween image new (root_of image ∷ [])
  begun = record {
    but = record {
      size = more.same_size ∙ length-replicate n None ∙ size;
      root = more.is;
      reached = λ block mark e. let is = only_root block mark e in
          subst (λ (b : ℕ). Reached image b mark.role) (sym is.0) (subst (λ (m : Mark). Reached image (root_of image) m.role) (sym is.1) start);
      sound = λ block mark e. let is = only_root block mark e in
          subst (λ (b : ℕ). IsSound image b mark.role) (sym is.0) (subst (λ (m : Mark). IsSound image (root_of image) m.role) (sym is.1) sound);
      noted = λ block mark e. inl (only_root block mark e).0;
      inside = λ block i mark next e p not_left. absurd (not_left (root_pending block mark e));
      marked = λ block i mark next e p not_left. absurd (not_left (root_pending block mark e));
    };
    waiting = record {
      marked = λ block q. elim (Contains-push_cases [] (root_of image) block q) [
        | inl old ↦ absurd (omega (arith, old.1))
        | inr z ↦ (root_mark, ap (mark_at new) (sym z) ∙ more.is)
      ];
      once = λ i j d l below. absurd (omega (arith, l, below));
      room = omega (arith, more.fewer, all_unmarked n, size);
    };
  }

-- the same, with a name for the root
pub begun_at : (image : List ℕ) (n root : ℕ) (marks : List (Option Mark)) (pushed : List ℕ) → n ≡ block_count image → root ≡ root_of image → root < n → IsSound image root Root → marks ≡ replicate n None → pushed ≡ root ∷ []
    → IsBetween image (set marks root (Some root_mark)) pushed
begun_at image n root marks pushed size e l sound none added =
    let there : root_of image < length (replicate n None) = omega (arith, e, length-replicate {A = Option Mark} n None) in
    let more = marked_more (replicate n None) (root_of image) root_mark there (none_marked n (root_of image)) in
    let from = begun image n (set (replicate n None) (root_of image) (Some root_mark)) size more (subst (λ (b : ℕ). IsSound image b Root) e sound) in
    subst (λ (xs : List ℕ). IsBetween image (set marks root (Some root_mark)) xs) (sym added)
    (subst (λ (ms : List (Option Mark)). IsBetween image (set ms root (Some root_mark)) (root ∷ [])) (sym none)
    (subst (λ (b : ℕ). IsBetween image (set (replicate n None) b (Some root_mark)) (b ∷ [])) (sym e) from))
