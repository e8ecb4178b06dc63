-- The progress of listing the keys of everything below an object.
use Rattle.std.proofs.Common.{◌≡◌, ℕ, ◌<◌, ◌⊎◌, inl, inr, List, [], ◌∷◌, ◌++◌, length, reverse, Contains, IsSome, refl, sym, ap, ◌∙◌, subst}
use Rattle.adf_import.proofs.Common.{Contains-append_cases, Contains-append_left, Contains-append_right, Once, Once-apart, Contains-cases, Contains-here, Contains-later, Contains-nil, Tree, Proper, entries, by_parent as under_parent, AreKeysBelow}
use Rattle.std.proofs.lemmas.List.{append-nil, reverse-reverse}
use Rattle.ados_model.proofs.KeyLists.{Once-front, Once-append}
use Rattle.ados_volume.proofs.Distinct.{Contains-one, Contains-reverse}
use Rattle.ados_volume.proofs.GoingBelow.{AreApart, IsHeld, apart_at_first, apart_goes_on, gone_few, key_there}

-- no list ends before an element of it
no_split : (front : List ℕ) (key : ℕ) (back : List ℕ) → [] ≡ front ++ key ∷ back → ⊥
no_split [] key back e = cc e
no_split (f ∷ fs) key back e = cc e

-- an element of a list is its last one, or comes before that
last_or_before : (xs : List ℕ) (x : ℕ) (front : List ℕ) (key : ℕ) (back : List ℕ) → xs ++ x ∷ [] ≡ front ++ key ∷ back
    → ((xs ≡ front) × (x ≡ key)) ⊎ ((rest : List ℕ) × (xs ≡ front ++ key ∷ rest))
last_or_before [] x [] key back e = let same : x ≡ key = cc e in inl (refl, same)
last_or_before [] x (f ∷ fs) key back e = absurd (no_split fs key back (let rest : [] ≡ fs ++ key ∷ back = cc e in rest))
last_or_before (y ∷ ys) x [] key back e = inr (ys, let same : y ≡ key = cc e in ap (λ (z : ℕ). z ∷ ys) same)
last_or_before (y ∷ ys) x (f ∷ fs) key back e =
    let first : y ≡ f = cc e in
    elim (last_or_before ys x fs key back (let rest : ys ++ x ∷ [] ≡ fs ++ key ∷ back = cc e in rest)) [
      | inl here ↦ inl ((λ i. first i ∷ here.0 i), here.1)
      | inr before ↦ inr (before.0, λ i. first i ∷ before.1 i)
    ]

-- what waits may be in any order
turned : (t : Tree) (top : ℕ) (gone others keys : List ℕ) → Once keys → AreApart t top gone (others ++ reverse keys) → AreApart t top gone (others ++ keys)
turned t top gone others keys once a = record {
  gone_once = a.gone_once;
  waiting_once = Once-append others keys (Once-front others (reverse keys) a.waiting_once) once (λ x m n. Once-apart others (reverse keys) x a.waiting_once m (in_reverse x n));
  apart = λ x m n. a.apart x m (in_turn x n);
  gone_held = a.gone_held;
  waiting_held = λ x m. a.waiting_held x (in_turn x m);
}
  where
    in_reverse : (x : ℕ) → Contains keys x → Contains (reverse keys) x
    in_reverse x m = Contains-reverse (reverse keys) x (subst (λ (ks : List ℕ). Contains ks x) (sym (reverse-reverse keys)) m)

    in_turn : (x : ℕ) → Contains (others ++ keys) x → Contains (others ++ reverse keys) x
    in_turn x m = elim (Contains-append_cases others keys x m) [
      | inl other ↦ Contains-append_left others (reverse keys) x other
      | inr own ↦ Contains-append_right others (reverse keys) x (in_reverse x own)
    ]

-- these keys were listed, and those wait, the next one last
pub record IsGathering (t : Tree) (top : ℕ) (gone waiting : List ℕ) : Type 0 where
  pub apart : AreApart t top gone waiting
  pub in_order : (front : List ℕ) (key : ℕ) (back : List ℕ) → gone ≡ front ++ key ∷ back → IsHeld t top front key
  pub all : (dir key : ℕ) → Contains (top ∷ gone) dir → Contains (entries t dir) key → Contains (gone ++ waiting) key

module _ (t : Tree) (proper : Proper t) (top : ℕ) where
  pub gathering_starts : (waiting : List ℕ) → waiting ≡ entries t top → IsGathering t top [] waiting
  gathering_starts waiting is = record {
    apart = subst (AreApart t top []) (sym is) (turned t top [] [] (entries t top) (proper.once top) (apart_at_first t proper top));
    in_order = λ front key back e. absurd (no_split front key back e);
    all = λ dir key m n. elim (Contains-cases top [] dir m) [
      | inl same ↦ subst (λ (ks : List ℕ). Contains ks key) (sym is) (subst (λ (d : ℕ). Contains (entries t d) key) (sym same) n)
      | inr none ↦ absurd (Contains-nil dir none)
    ];
  }

  module _ (gone others : List ℕ) (next : ℕ) (g : IsGathering t top gone (others ++ next ∷ [])) where
    pub gathering_there : IsSome (t.nodes next)
    gathering_there = key_there t proper top gone others next g.apart

    pub gathering_few : length gone < t.blocks
    gathering_few = gone_few t proper top gone others next g.apart

    next_held : IsHeld t top gone next
    next_held = g.apart.waiting_held next (Contains-append_right others (next ∷ []) next (Contains-here next []))

    -- what was listed or waits is still there
    moved : (key : ℕ) → Contains (gone ++ (others ++ next ∷ [])) key → Contains ((gone ++ next ∷ []) ++ (others ++ entries t next)) key
    moved key m = elim (Contains-append_cases gone (others ++ next ∷ []) key m) [
      | inl before ↦ Contains-append_left (gone ++ next ∷ []) (others ++ entries t next) key (Contains-append_left gone (next ∷ []) key before)
      | inr waits ↦ elim (Contains-append_cases others (next ∷ []) key waits) [
        | inl other ↦ Contains-append_right (gone ++ next ∷ []) (others ++ entries t next) key (Contains-append_left others (entries t next) key other)
        | inr own ↦ Contains-append_left (gone ++ next ∷ []) (others ++ entries t next) key (Contains-append_right gone (next ∷ []) key own)
      ]
    ]

    pub gathering_goes_on : (waiting : List ℕ) → waiting ≡ others ++ entries t next → IsGathering t top (gone ++ next ∷ []) waiting
    gathering_goes_on waiting is = record {
      apart = subst (AreApart t top (gone ++ next ∷ [])) (sym is) (turned t top (gone ++ next ∷ []) others (entries t next) (proper.once next) (apart_goes_on t proper top gone others next g.apart));
      in_order = λ front key back e. elim (last_or_before gone next front key back e) [
        | inl here ↦ subst (IsHeld t top front) here.1 (subst (λ (ks : List ℕ). IsHeld t top ks next) here.0 next_held)
        | inr before ↦ g.in_order front key before.0 before.1
      ];
      all = λ dir key m n. subst (λ (ks : List ℕ). Contains ((gone ++ next ∷ []) ++ ks) key) (sym is) (elim (Contains-cases top (gone ++ next ∷ []) dir m) [
        | inl same ↦ moved key (g.all dir key (subst (Contains (top ∷ gone)) same (Contains-here top gone)) n)
        | inr later ↦ elim (Contains-append_cases gone (next ∷ []) dir later) [
          | inl before ↦ moved key (g.all dir key (Contains-later top gone dir before) n)
          | inr own ↦
              Contains-append_right (gone ++ next ∷ []) (others ++ entries t next) key
              (Contains-append_right others (entries t next) key (subst (λ (d : ℕ). Contains (entries t d) key) (sym (Contains-one next dir own)) n))
        ]
      ]);
    }

  -- when nothing waits, everything was listed
  pub gathered : (gone waiting : List ℕ) → waiting ≡ [] → IsGathering t top gone waiting → AreKeysBelow t top gone
  gathered gone waiting none g = record {
    once = g.apart.gone_once;
    below = λ key m. let h = g.apart.gone_held key m in under_parent h.1 h.3;
    in_order = λ front key back e. let h = g.in_order front key back e in (h.0, h.1, h.2);
    all = λ dir key m n. subst (λ (ks : List ℕ). Contains ks key) (ap (λ (ws : List ℕ). gone ++ ws) none ∙ append-nil gone) (g.all dir key m n);
  }
