-- A block found for the second time.
use Rattle.ados_faults.proofs.Common.{◌≡◌, ◌≢◌, ℕ, ◌*◌, ◌<◌, ◌⊎◌, inl, inr, Bool, List, [], ◌∷◌, length, replicate, Option, Some, None, set, sym, ap, ◌∙◌, subst, arith, length-set, All, slice_get, cases_order, length-replicate, All-push, IsImage, block_count, Root, InImage, IsUsedTwice, PlaceNames, Reached, root_of, start, two_holders, two_longs, root_named, Mark, mark_at, IsMarkedMore, marked_more, none_marked, Taken, Step, IsNamedAs, root_mark, AreNoted, AreBacked, root_step, IsMet, IsStep, IsWalked, Nothing}
use Rattle.ados_faults.proofs.Covering.{none_backed}
use Rattle.ados_faults.proofs.Insides.{root_inside}

place_names : (image : List ℕ) (block : ℕ) (mark : Mark) → IsNamedAs image block mark → PlaceNames image mark.holder mark.long block
place_names image block mark named = record { role = named.of_holder; next = mark.role; reached = named.reached; place = named.place; names = named.names }

-- by another place than the first time
pub used_twice : (image : List ℕ) (block : ℕ) (first mark : Mark) → InImage image block → IsMet image block first → IsNamedAs image block mark
    → (first.holder ≢ mark.holder) ⊎ (first.long ≢ mark.long) → IsUsedTwice image block
used_twice image block first mark inside (inl root) named other = root_named root (place_names image block mark named)
used_twice image block first mark inside (inr met) named other =
    let was = place_names image block first met in
    let names = place_names image block mark named in
    elim other [
      | inl holder ↦ two_holders inside (first.long, was) (mark.long, names) holder
      | inr long ↦ elim (cases_order first.holder mark.holder) [
        | inl same ↦ two_longs inside (subst (λ (h : ℕ). PlaceNames image h first.long block) same was) names long
        | inr (inl l) ↦ two_holders inside (first.long, was) (mark.long, names) (λ z. omega (arith, z, l))
        | inr (inr l) ↦ two_holders inside (first.long, was) (mark.long, names) (λ z. omega (arith, z, l))
      ]
    ]

-- only the root, at first
pub started : (image : List ℕ) → IsImage image → (cells : List Bool) (marks : List (Option Mark)) (roles : List Taken) (root : ℕ) (steps : List Step) → AreNoted image cells
    → marks ≡ replicate (block_count image) None → roles ≡ replicate (5 * block_count image) Nothing → root ≡ root_of image → steps ≡ root_step root ∷ []
    → IsWalked image cells (set marks root (Some root_mark)) roles steps
started image im cells marks roles root steps noted none untaken is only = record {
  whole = im;
  noted = noted;
  size = length-set marks root (Some root_mark) ∙ ap length none ∙ length-replicate {A = Option Mark} (block_count image) None;
  root = subst (λ (b : ℕ). mark_at (set marks root (Some root_mark)) b ≡ Some root_mark) is more.is;
  met = λ block mark e. elim (cases_order block root) [
    | inl here ↦ inl (here ∙ is)
    | inr (inl l) ↦ absurd (unset block mark (λ z. omega (arith, z, l)) e)
    | inr (inr l) ↦ absurd (unset block mark (λ z. omega (arith, z, l)) e)
  ];
  marked = λ block mark e. elim (cases_order block root) [
    | inl here ↦
        let h : Some root_mark ≡ Some mark = sym more.is ∙ ap (mark_at (set marks root (Some root_mark))) (sym here) ∙ e in
        let same : root_mark ≡ mark = cc h in
        subst (λ (m : Mark). Reached image block m.role) same (subst (λ (b : ℕ). Reached image b Root) (sym (here ∙ is)) start)
    | inr (inl l) ↦ absurd (unset block mark (λ z. omega (arith, z, l)) e)
    | inr (inr l) ↦ absurd (unset block mark (λ z. omega (arith, z, l)) e)
  ];
  reached = subst (All (IsStep image)) (sym only) (All-push (IsStep image) [] (root_step root) (λ k d l. absurd (omega (arith, l))) (record {
    inside = subst (InImage image) (sym is) (root_inside image im);
    reached = subst (λ (b : ℕ). Reached image b Root) (sym is) start;
  }));
  first = (0, ap (λ (xs : List Step). slice_get xs 0) only ∙ ap (λ (b : ℕ). Some (root_step b)) is);
  role_size = ap length untaken ∙ length-replicate {A = Taken} (5 * block_count image) Nothing;
  backed = subst (λ (xs : List Taken). AreBacked xs steps) (sym untaken) (none_backed (5 * block_count image) steps);
}
  where
    within : root < length marks
    within = let inside = root_inside image im in omega (arith, ap length none, length-replicate {A = Option Mark} (block_count image) None, is, inside.1)

    was_none : mark_at marks root ≡ None
    was_none = ap (λ (ms : List (Option Mark)). mark_at ms root) none ∙ none_marked (block_count image) root

    more : IsMarkedMore marks (set marks root (Some root_mark)) root root_mark
    more = marked_more marks root root_mark within was_none

    unset : (block : ℕ) (mark : Mark) → block ≢ root → mark_at (set marks root (Some root_mark)) block ≡ Some mark → ⊥
    unset block mark other e =
        let none_there : mark_at marks block ≡ None = ap (λ (ms : List (Option Mark)). mark_at ms block) none ∙ none_marked (block_count image) block in
        let h : None ≡ Some mark = sym none_there ∙ sym (more.others block other) ∙ e in
        cc h
