-- The steps of the walk on marks and pending blocks.
use Rattle.ados_check.proofs.Common.{◌≡◌, ◌≢◌, ◌↔◌, ℕ, ◌⊎◌, inl, inr, List, Option, None, Some, refl, sym, ap, ◌∙◌, subst, cases_eq, long, Role, InImage, IsPlace, Reached, root_of, named, Mark, mark_at, IsSound, root_mark, IsNoted, AreReachedBut, mark_of}
use Rattle.ados_check.proofs.MarkLemmas.{IsMarkedMore}

-- a place of the visited block, under its other names
pub in_hand : (image : List ℕ) (marks : List (Option Mark)) (hand i block j : ℕ) (m mark : Mark) (next : Role) → mark_at marks hand ≡ Some m → mark_at marks block ≡ Some mark → block ≡ hand → j ≡ i → IsPlace image block mark.role j next → IsPlace image hand m.role i next
in_hand image marks hand i block j m mark next held e z f p =
    let one : Some mark ≡ Some m = sym e ∙ ap (mark_at marks) z ∙ held in
    let mark_is : mark ≡ m = cc one in
    subst (λ (x : Mark). IsPlace image hand x.role i next) mark_is (subst (λ (k : ℕ). IsPlace image hand mark.role k next) f (subst (λ (b : ℕ). IsPlace image b mark.role j next) z p))

module _ (image : List ℕ) (marks : List (Option Mark)) where
  -- two sets of places left that agree for marked blocks
  abbrev pub AgreeOnPlaces : (ℕ → ℕ → Type 0) → (ℕ → ℕ → Type 0) → Type 0
  AgreeOnPlaces left other = (block i : ℕ) (mark : Mark) (next : Role) → mark_at marks block ≡ Some mark → IsPlace image block mark.role i next → left block i ↔ other block i

  pub with_left : (left other : ℕ → ℕ → Type 0) → AgreeOnPlaces left other → AreReachedBut image marks left → AreReachedBut image marks other
  with_left left other same r = record {
    size = r.size;
    root = r.root;
    reached = r.reached;
    sound = r.sound;
    noted = λ block mark e. elim (r.noted block mark e) [
      | inl root ↦ inl root
      | inr n ↦ inr (record { holder = n.holder; held = n.held; place = n.place; names = n.names; passed = λ l. n.passed ((same mark.holder mark.long n.holder mark.role n.held n.place).1 l) })
    ];
    inside = λ block i mark next e p other_left. r.inside block i mark next e p (λ l. other_left ((same block i mark next e p).0 l));
    marked = λ block i mark next e p other_left. r.marked block i mark next e p (λ l. other_left ((same block i mark next e p).0 l));
  }

-- a place of a marked block is visited: it names a block that had no mark, and now has one with this place
module _ (image : List ℕ) (marks new : List (Option Mark)) (left other : ℕ → ℕ → Type 0) (hand i : ℕ) (m : Mark) (next : Role)
    (r : AreReachedBut image marks left) (held : mark_at marks hand ≡ Some m) (place : IsPlace image hand m.role i next)
    (only : (role : Role) → IsPlace image hand m.role i role → role ≡ next)
    (within : InImage image (long image hand i)) (sound : IsSound image (long image hand i) next)
    (more : IsMarkedMore marks new (long image hand i) (mark_of next hand i))
    (passed : ¬ other hand i) (all_left : (j : ℕ) → other (long image hand i) j)
    (same : (block j : ℕ) → block ≢ long image hand i → ¬ ((block ≡ hand) × (j ≡ i)) → left block j ↔ other block j)
    (was_left : left hand i) where
  kept : (block : ℕ) (mark : Mark) → mark_at marks block ≡ Some mark → (block ≢ long image hand i) × (mark_at new block ≡ Some mark)
  kept block mark e =
      let ne : block ≢ long image hand i = λ z. let h : None ≡ Some mark = sym more.was ∙ sym (ap (mark_at marks) z) ∙ e in cc h in
      (ne, more.others block ne ∙ e)

  old_or_new : (block : ℕ) (mark : Mark) → mark_at new block ≡ Some mark → ((block ≡ long image hand i) × (mark ≡ mark_of next hand i)) ⊎ ((block ≢ long image hand i) × (mark_at marks block ≡ Some mark))
  old_or_new block mark e = elim (cases_eq block (long image hand i)) [
    | inl z ↦ let h : Some mark ≡ Some (mark_of next hand i) = sym e ∙ ap (mark_at new) z ∙ more.is in inl (z, cc h)
    | inr ne ↦ inr (ne, sym (more.others block ne) ∙ e)
  ]

  new_reached : (block : ℕ) (mark : Mark) → mark_at new block ≡ Some mark → Reached image block mark.role
  new_reached block mark e = elim (old_or_new block mark e) [
    | inl h ↦ subst (λ (b : ℕ). Reached image b mark.role) (sym h.0) (subst (λ (x : Mark). Reached image (long image hand i) x.role) (sym h.1) (named (r.reached hand m held) place within))
    | inr h ↦ r.reached block mark h.1
  ]

  new_sound : (block : ℕ) (mark : Mark) → mark_at new block ≡ Some mark → IsSound image block mark.role
  new_sound block mark e = elim (old_or_new block mark e) [
    | inl h ↦ subst (λ (b : ℕ). IsSound image b mark.role) (sym h.0) (subst (λ (x : Mark). IsSound image (long image hand i) x.role) (sym h.1) sound)
    | inr h ↦ r.sound block mark h.1
  ]

  note_of : IsNoted image new other (long image hand i) (mark_of next hand i)
  note_of = record { holder = m; held = (kept hand m held).1; place = place; names = refl; passed = passed }

  left_in_hand : (block j : ℕ) → block ≡ hand → j ≡ i → left block j
  left_in_hand block j e f = subst (λ (b : ℕ). left b j) (sym e) (subst (λ (k : ℕ). left hand k) (sym f) was_left)

  still_noted : (block : ℕ) (mark : Mark) → IsNoted image marks left block mark → IsNoted image new other block mark
  still_noted block mark n =
      let kept_holder = kept mark.holder n.holder n.held in
      record {
        holder = n.holder;
        held = kept_holder.1;
        place = n.place;
        names = n.names;
        passed = λ l. n.passed ((same mark.holder mark.long kept_holder.0 (λ h. n.passed (left_in_hand mark.holder mark.long h.0 h.1))).1 l);
      }

  new_noted : (block : ℕ) (mark : Mark) → mark_at new block ≡ Some mark → (block ≡ root_of image) ⊎ IsNoted image new other block mark
  new_noted block mark e = elim (old_or_new block mark e) [
    | inl h ↦ inr (subst (λ (b : ℕ). IsNoted image new other b mark) (sym h.0) (subst (λ (x : Mark). IsNoted image new other (long image hand i) x) (sym h.1) note_of))
    | inr h ↦ elim (r.noted block mark h.1) [ inl root ↦ inl root | inr n ↦ inr (still_noted block mark n) ]
  ]

  -- a visited place is the current one, or was visited before
  data Gone (block j : ℕ) (mark : Mark) (role : Role) : Type 0 where
    now : block ≡ hand → j ≡ i → role ≡ next → Gone block j mark role
    before : mark_at marks block ≡ Some mark → ¬ left block j → Gone block j mark role

  gone : (block j : ℕ) (mark : Mark) (role : Role) → mark_at new block ≡ Some mark → IsPlace image block mark.role j role → ¬ other block j → Gone block j mark role
  gone block j mark role e p not_left = elim (old_or_new block mark e) [
    | inl h ↦ absurd (not_left (subst (λ (b : ℕ). other b j) (sym h.0) (all_left j)))
    | inr h ↦ elim (cases_eq block hand) [
      | inl z ↦ elim (cases_eq j i) [
        | inl f ↦ now z f (only role (in_hand image marks hand i block j m mark role held h.1 z f p))
        | inr ne ↦ before h.1 (λ l. not_left ((same block j h.0 (λ b. ne b.1)).0 l))
      ]
      | inr ne ↦ before h.1 (λ l. not_left ((same block j h.0 (λ b. ne b.0)).0 l))
    ]
  ]

  new_inside : (block j : ℕ) (mark : Mark) (role : Role) → mark_at new block ≡ Some mark → IsPlace image block mark.role j role → ¬ other block j → InImage image (long image block j)
  new_inside block j mark role e p not_left = elim (gone block j mark role e p not_left) [
    | now z f g ↦ subst (λ (b : ℕ). InImage image (long image b j)) (sym z) (subst (λ (k : ℕ). InImage image (long image hand k)) (sym f) within)
    | before h l ↦ r.inside block j mark role h p l
  ]

  new_marked : (block j : ℕ) (mark : Mark) (role : Role) → mark_at new block ≡ Some mark → IsPlace image block mark.role j role → ¬ other block j → mark_at new (long image block j) ≡ Some (mark_of role block j)
  new_marked block j mark role e p not_left = elim (gone block j mark role e p not_left) [
    | now z f g ↦ let here = more.is in cc
    | before h l ↦ (kept (long image block j) (mark_of role block j) (r.marked block j mark role h p l)).1
  ]

  pub gone_through : AreReachedBut image new other
  gone_through = record {
    size = more.same_size ∙ r.size;
    root = (kept (root_of image) root_mark r.root).1;
    reached = new_reached;
    sound = new_sound;
    noted = new_noted;
    inside = new_inside;
    marked = new_marked;
  }
