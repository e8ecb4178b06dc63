-- The set of the names so far.
use Rattle.ados_check.proofs.Common.{◌≡◌, ◌≢◌, ℕ, ◌+◌, ◌<◌, ◌≤◌, ◌⊎◌, inl, inr, Bool, true, false, cond, List, length, Option, refl, sym, ap, ap₂, ◌∙◌, subst, arith, cases_Bool, cases_lt, HasDuplicateName, Mark, AreReached, AreUnlike, IsMarkedEntry, upper_name}
use Rattle.std.specs.declared.cmp.Ordering.{Ordering}
use Rattle.std.specs.declared.cmp.Ordering.TheVariants.{Equal}
use Rattle.std.specs.Ordering.{nat_cmp, ordering_then, is_eq}
use Rattle.std.specs.Cmp.Lexicographic.{slice_cmp}
use Rattle.std.specs.FinMap.{nat_cmp-IsAntisymmetric, slice_cmp-IsAntisymmetric}
use Rattle.std.specs.BTreeMap.{is_at}
use Rattle.std.specs.BTreeSet.{BTreeSet, contains}
use Rattle.ados_check.specs.declared.names.EntryName.{EntryName}
use Rattle.ados_check.proofs.UpperNames.{one_directory, entry_below, upper_names_equal, entry_sound, duplicate_shown}

-- the order of names: by directory, then by bytes
abbrev pub entry_cmp : EntryName → EntryName → Ordering
entry_cmp x y = ordering_then (nat_cmp x.dir y.dir) (slice_cmp nat_cmp x.name y.name)

abbrev pub key_of : List ℕ → ℕ → ℕ → EntryName
key_of image block dir = record { dir = dir; name = upper_name image block }

equal_parts : (x y : EntryName) (o : Ordering) → nat_cmp x.dir y.dir ≡ o → ordering_then o (slice_cmp nat_cmp x.name y.name) ≡ Equal → (x.dir ≡ y.dir) × (x.name ≡ y.name)
equal_parts x y Equal e h = (nat_cmp-IsAntisymmetric x.dir y.dir e, slice_cmp-IsAntisymmetric nat_cmp-IsAntisymmetric x.name y.name h)
equal_parts x y _ e h = absurd (cc h)

pub is_equal : (o : Ordering) → is_eq o ≡ true → o ≡ Equal
is_equal Equal e = refl
is_equal _ e = absurd (cc e)

-- names that are equal in this order are equal
same_keys : (x y : EntryName) → is_at (entry_cmp x) y ≡ true → (x.dir ≡ y.dir) × (x.name ≡ y.name)
same_keys x y e = equal_parts x y (nat_cmp x.dir y.dir) refl (is_equal (entry_cmp x y) e)

-- the names of the entries among the first n blocks are in the set, and no two are the same
pub record AreEntered (image : List ℕ) (marks : List (Option Mark)) (n : ℕ) (names : BTreeSet EntryName) : Type 0 where
  pub found : (q : EntryName) → contains entry_cmp names q ≡ true → (other : ℕ) × (other < n) × IsMarkedEntry marks other q.dir × (upper_name image other ≡ q.name)
  pub held : (k dir : ℕ) → k < n → IsMarkedEntry marks k dir → contains entry_cmp names (key_of image k dir) ≡ true
  pub unlike : (k j dir : ℕ) → k < n → j < n → IsMarkedEntry marks k dir → IsMarkedEntry marks j dir → upper_name image k ≡ upper_name image j → k ≡ j

module _ (image : List ℕ) (marks : List (Option Mark)) (n : ℕ) (names : BTreeSet EntryName) (e : AreEntered image marks n names) where
  -- a block that is not an entry adds no name
  pub entered_none : ((dir : ℕ) → ¬ IsMarkedEntry marks n dir) → AreEntered image marks (n + 1) names
  entered_none none = record {
    found = λ q h. let f = e.found q h in (f.0, omega (arith, f.1), f.2, f.3);
    held = λ k dir l m. e.held k dir (before k dir l m) m;
    unlike = λ k j dir l m a b h. e.unlike k j dir (before k dir l a) (before j dir m b) a b h;
  }
    where
      before : (k dir : ℕ) → k < n + 1 → IsMarkedEntry marks k dir → k < n
      before k dir l m = elim (cases_lt k n) [
        | inl b ↦ b
        | inr b ↦ (let here : k ≡ n = omega (arith, l, b) in absurd (none dir (subst (λ (j : ℕ). IsMarkedEntry marks j dir) here m)))
      ]

  module _ (dir : ℕ) (name : List ℕ) (m : IsMarkedEntry marks n dir) (is : name ≡ upper_name image n) where
    -- a name that is already in the set
    pub entered_twice : AreReached image marks → contains entry_cmp names (record { dir = dir; name = name }) ≡ true → HasDuplicateName image n
    entered_twice c h =
        let f = e.found (record { dir = dir; name = name }) h in
        duplicate_shown image marks c n f.0 dir m f.2 (λ z. omega (arith, z, f.1)) (sym is ∙ sym f.3)

    -- a new name
    pub entered_more : (more : BTreeSet EntryName) → contains entry_cmp names (record { dir = dir; name = name }) ≡ false
        → ((q : EntryName) → contains entry_cmp more q ≡ cond (is_at (entry_cmp (record { dir = dir; name = name })) q) true (contains entry_cmp names q))
        → contains entry_cmp more (record { dir = dir; name = name }) ≡ true → AreEntered image marks (n + 1) more
    entered_more more new updates there = record { found = found; held = held; unlike = unlike }
      where
        found : (q : EntryName) → contains entry_cmp more q ≡ true → (other : ℕ) × (other < n + 1) × IsMarkedEntry marks other q.dir × (upper_name image other ≡ q.name)
        found q h = go (cases_Bool (is_at (entry_cmp (record { dir = dir; name = name })) q))
          where
            go : (is_at (entry_cmp (record { dir = dir; name = name })) q ≡ true) ⊎ (is_at (entry_cmp (record { dir = dir; name = name })) q ≡ false) → (other : ℕ) × (other < n + 1) × IsMarkedEntry marks other q.dir × (upper_name image other ≡ q.name)
            go (inl a) =
                let same = same_keys (record { dir = dir; name = name }) q a in
                (n, omega arith, subst (IsMarkedEntry marks n) same.0 m, sym is ∙ same.1)
            go (inr a) =
                let old : contains entry_cmp names q ≡ true = sym (updates q ∙ ap (λ (b : Bool). cond b true (contains entry_cmp names q)) a) ∙ h in
                let f = e.found q old in
                (f.0, omega (arith, f.1), f.2, f.3)

        -- the new name equals none before it
        apart : (k : ℕ) → k < n → IsMarkedEntry marks k dir → upper_name image k ≢ upper_name image n
        apart k l a z =
            let same : key_of image k dir ≡ record { dir = dir; name = name } = ap (λ (xs : List ℕ). let key : EntryName = record { dir = dir; name = xs } in key) (z ∙ sym is) in
            let old : contains entry_cmp names (record { dir = dir; name = name }) ≡ true = ap (contains entry_cmp names) (sym same) ∙ e.held k dir l a in
            absurd (cc (old, new))

        held : (k d : ℕ) → k < n + 1 → IsMarkedEntry marks k d → contains entry_cmp more (key_of image k d) ≡ true
        held k d l a = go (cases_lt k n)
          where
            go : (k < n) ⊎ (n ≤ k) → contains entry_cmp more (key_of image k d) ≡ true
            go (inl b) = updates (key_of image k d) ∙ kept (is_at (entry_cmp (record { dir = dir; name = name })) (key_of image k d)) (e.held k d b a)
              where
                kept : (b : Bool) → contains entry_cmp names (key_of image k d) ≡ true → cond b true (contains entry_cmp names (key_of image k d)) ≡ true
                kept true h = refl
                kept false h = h
            go (inr b) =
                let here : k ≡ n = omega (arith, l, b) in
                let dirs : d ≡ dir = one_directory marks n d dir (subst (λ (j : ℕ). IsMarkedEntry marks j d) here a) m in
                let text : upper_name image k ≡ name = ap (upper_name image) here ∙ sym is in
                ap₂ (λ (x : ℕ) (xs : List ℕ). let key : EntryName = record { dir = x; name = xs } in contains entry_cmp more key) dirs text ∙ there

        unlike : (k j d : ℕ) → k < n + 1 → j < n + 1 → IsMarkedEntry marks k d → IsMarkedEntry marks j d → upper_name image k ≡ upper_name image j → k ≡ j
        unlike k j d l r a b h = go (cases_lt k n) (cases_lt j n)
          where
            to_here : (i : ℕ) → n ≡ i → IsMarkedEntry marks i d → d ≡ dir
            to_here i here x = one_directory marks n d dir (subst (λ (y : ℕ). IsMarkedEntry marks y d) (sym here) x) m

            go : (k < n) ⊎ (n ≤ k) → (j < n) ⊎ (n ≤ j) → k ≡ j
            go (inl x) (inl y) = e.unlike k j d x y a b h
            go (inl x) (inr y) =
                let here : n ≡ j = omega (arith, r, y) in
                absurd (apart k x (subst (IsMarkedEntry marks k) (to_here j here b) a) (h ∙ ap (upper_name image) (sym here)))
            go (inr x) (inl y) =
                let here : n ≡ k = omega (arith, l, x) in
                absurd (apart j y (subst (IsMarkedEntry marks j) (to_here k here a) b) (sym h ∙ ap (upper_name image) (sym here)))
            go (inr x) (inr y) = omega (arith, l, r, x, y)

-- once all names are in the set, no two entries of a directory have the same name
pub all_unlike : (image : List ℕ) (marks : List (Option Mark)) (n : ℕ) (names : BTreeSet EntryName) → AreReached image marks → length marks ≡ n → AreEntered image marks n names → AreUnlike image marks
all_unlike image marks n names c size e block other dir m k same =
    let v = (entry_sound image marks c block dir m).name in
    let w = (entry_sound image marks c other dir k).name in
    e.unlike block other dir (omega (arith, entry_below marks block dir m, size)) (omega (arith, entry_below marks other dir k, size)) m k (upper_names_equal image block other v.text.counted w.text.counted same)
