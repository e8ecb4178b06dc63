-- The progress of a walk over everything below a directory.
use Rattle.ados_volume.proofs.Common.{AreBelow, Below, Contains, Contains-append_cases, Contains-append_left, Contains-append_right, Contains-cases, Contains-here, Contains-later, Contains-nil, HasGrown, IsSome, IsUnder, List, Once, Once-append, Once-before, Once-front, Option, Proper, Some, Tree, [], ap, append-nil, append_assoc, arith, entries, inl, inr, is_some, itself, length, length-append, length-once, map, map-append, parent_in, parent_of, placed, refl, reverse, reverse-append, reverse-reverse, subst, suc, sym, under_parent, ℕ, ◌++◌, ◌+◌, ◌<◌, ◌∙◌, ◌∷◌, ◌≡◌, ◌≢◌}
use Rattle.ados_volume.proofs.Loops.{no_loop}
use Rattle.ados_volume.proofs.Distinct.{Once-nil, Once-one, Once-reverse, Contains-one, Contains-reverse}
use Rattle.ados_volume.proofs.Waiting.{Following, inside, parted}
use Rattle.ados_volume.proofs.Waiting.Following.{done, next}

-- the keys of entries
abbrev pub keys_of : List Below → List ℕ
keys_of es = map (λ e. e.key) es

-- the entry's directory was visited, and is the top or below it
abbrev pub IsHeld : Tree → ℕ → List ℕ → ℕ → Type 0
IsHeld t top gone key = (dir : ℕ) × (parent_of t key ≡ Some dir) × Contains (top ∷ gone) dir × IsUnder t top dir

-- no key occurs twice among the visited and the waiting ones
pub record AreApart (t : Tree) (top : ℕ) (gone waiting : List ℕ) : Type 0 where
  pub gone_once : Once gone
  pub waiting_once : Once waiting
  pub apart : (x : ℕ) → Contains gone x → ¬ Contains waiting x
  pub gone_held : (x : ℕ) → Contains gone x → IsHeld t top gone x
  pub waiting_held : (x : ℕ) → Contains waiting x → IsHeld t top gone x

module _ (t : Tree) (proper : Proper t) (top : ℕ) where
  held_node : (gone : List ℕ) (x : ℕ) → IsHeld t top gone x → x < t.blocks
  held_node gone x h = let n = parent_in (t.nodes x) h.0 h.1 in (proper.inside x n.0 n.1).1

  -- a held key is not the top
  not_top : (gone : List ℕ) (x : ℕ) → IsHeld t top gone x → x ≢ top
  not_top gone x h same =
      let n = parent_in (t.nodes x) h.0 h.1 in
      no_loop t proper x h.0 (proper.rooted x n.0 n.1) h.1 (subst (λ (a : ℕ). IsUnder t a h.0) (sym same) h.3)

  entry_parent : (dir x : ℕ) → Contains (entries t dir) x → parent_of t x ≡ Some dir
  entry_parent dir x c = (proper.listed dir x).0 c

  -- at the start, the entries of the top wait
  pub apart_at_first : AreApart t top [] (reverse (entries t top))
  apart_at_first = record {
    gone_once = Once-nil;
    waiting_once = Once-reverse (entries t top) (proper.once top);
    apart = λ x m. absurd (Contains-nil x m);
    gone_held = λ x m. absurd (Contains-nil x m);
    waiting_held = λ x m. (top, entry_parent top x (Contains-reverse (entries t top) x m), Contains-here top [], itself refl);
  }

  module _ (gone others : List ℕ) (key : ℕ) (a : AreApart t top gone (others ++ key ∷ [])) where
    key_waits : Contains (others ++ key ∷ []) key
    key_waits = Contains-append_right others (key ∷ []) key (Contains-here key [])

    key_held : IsHeld t top gone key
    key_held = a.waiting_held key key_waits

    -- the contents of the entry were not visited yet
    unmet : (x : ℕ) → Contains (entries t key) x → IsHeld t top gone x → ⊥
    unmet x c h =
        let same : h.0 ≡ key = cc (h.1, entry_parent key x c) in
        elim (Contains-cases top gone h.0 h.2) [
          | inl e ↦ not_top gone key key_held (sym same ∙ sym e)
          | inr m ↦ a.apart key (subst (Contains gone) same m) key_waits
        ]

    pub key_node : key < t.blocks
    key_node = held_node gone key key_held

    pub key_there : IsSome (t.nodes key)
    key_there = let n = parent_in (t.nodes key) key_held.0 key_held.1 in ap is_some n.1

    -- fewer keys were visited than there are blocks
    pub gone_few : length gone < t.blocks
    gone_few =
        let more = Once-append gone (key ∷ []) a.gone_once (Once-one key) (λ x m n. a.apart x m (subst (Contains (others ++ key ∷ [])) (Contains-one key x n) key_waits)) in
        let few = length-once (gone ++ key ∷ []) t.blocks more (λ x m. elim (Contains-append_cases gone (key ∷ []) x m) [
          | inl g ↦ held_node gone x (a.gone_held x g)
          | inr w ↦ subst (λ (y : ℕ). y < t.blocks) (Contains-one key x w) key_node
        ]) in
        omega (arith, few, length-append gone (key ∷ []))

    more_held : (x : ℕ) → IsHeld t top gone x → IsHeld t top (gone ++ key ∷ []) x
    more_held x h = (
      h.0,
      h.1,
      elim (Contains-cases top gone h.0 h.2) [
        | inl e ↦ subst (Contains (top ∷ (gone ++ key ∷ []))) e (Contains-here top (gone ++ key ∷ []))
        | inr m ↦ Contains-later top (gone ++ key ∷ []) h.0 (Contains-append_left gone (key ∷ []) h.0 m)
      ],
      h.3,
    )

    inner_held : (x : ℕ) → Contains (entries t key) x → IsHeld t top (gone ++ key ∷ []) x
    inner_held x c = (
      key,
      entry_parent key x c,
      Contains-later top (gone ++ key ∷ []) key (Contains-append_right gone (key ∷ []) key (Contains-here key [])),
      under_parent key_held.1 key_held.3,
    )

    other_waits : (x : ℕ) → Contains others x → Contains (others ++ key ∷ []) x
    other_waits x m = Contains-append_left others (key ∷ []) x m

    -- the entry is visited, and its contents wait
    pub apart_goes_on : AreApart t top (gone ++ key ∷ []) (others ++ reverse (entries t key))
    apart_goes_on = record {
      gone_once = Once-append gone (key ∷ []) a.gone_once (Once-one key) (λ x m n. a.apart x m (subst (Contains (others ++ key ∷ [])) (Contains-one key x n) key_waits));
      waiting_once = Once-append others (reverse (entries t key)) (Once-front others (key ∷ []) a.waiting_once) (Once-reverse (entries t key) (proper.once key))
          (λ x m n. unmet x (Contains-reverse (entries t key) x n) (a.waiting_held x (other_waits x m)));
      apart = λ x m n. elim (Contains-append_cases gone (key ∷ []) x m) [
        | inl g ↦ elim (Contains-append_cases others (reverse (entries t key)) x n) [
          | inl w ↦ a.apart x g (other_waits x w)
          | inr i ↦ unmet x (Contains-reverse (entries t key) x i) (a.gone_held x g)
        ]
        | inr k ↦ elim (Contains-append_cases others (reverse (entries t key)) x n) [
          | inl w ↦ Once-before others key [] a.waiting_once (subst (Contains others) (sym (Contains-one key x k)) w)
          | inr i ↦ unmet x (Contains-reverse (entries t key) x i) (subst (IsHeld t top gone) (Contains-one key x k) key_held)
        ]
      ];
      gone_held = λ x m. elim (Contains-append_cases gone (key ∷ []) x m) [
        | inl g ↦ more_held x (a.gone_held x g)
        | inr k ↦ more_held x (subst (IsHeld t top gone) (Contains-one key x k) key_held)
      ];
      waiting_held = λ x m. elim (Contains-append_cases others (reverse (entries t key)) x m) [
        | inl w ↦ more_held x (a.waiting_held x (other_waits x w))
        | inr i ↦ inner_held x (Contains-reverse (entries t key) x i)
      ];
    }

-- from position `at` on these were visited, and those wait, the next one last; the top is at position `above`
pub record IsGoing (t : Tree) (top : ℕ) (above : Option ℕ) (at : ℕ) (gone waiting : List Below) : Type 0 where
  pub follows : (more : List Below) → Following t (length gone + at) (reverse waiting) more → AreBelow t above at (entries t top) (gone ++ more)
  pub keys : AreApart t top (keys_of gone) (keys_of waiting)

keys_inside : (above : Option ℕ) (keys : List ℕ) → keys_of (map (placed above) keys) ≡ keys
keys_inside above [] = refl
keys_inside above (k ∷ ks) = ap (λ (xs : List ℕ). k ∷ xs) (keys_inside above ks)

keys_reverse : (es : List Below) → keys_of (reverse es) ≡ reverse (keys_of es)
keys_reverse [] = refl
keys_reverse (e ∷ es) =
    ap keys_of (reverse-append (e ∷ []) es) ∙ map-append (λ e. e.key) (reverse es) (e ∷ []) ∙ ap (λ (xs : List ℕ). xs ++ e.key ∷ []) (keys_reverse es) ∙ sym (reverse-append (e.key ∷ []) (keys_of es))

module _ (t : Tree) (proper : Proper t) (top : ℕ) (above : Option ℕ) (at : ℕ) where
  pub going_starts : (waiting : List Below) → waiting ≡ reverse (map (placed above) (entries t top)) → IsGoing t top above at [] waiting
  going_starts waiting is = record {
    follows = λ more f.
        let same : 0 + at ≡ at = omega arith in
        let p = parted t (length more) above at (entries t top) [] more (omega arith)
        (subst (λ (es : List Below). Following t at es more) (ap reverse is ∙ reverse-reverse own ∙ sym (append-nil own)) (subst (λ (k : ℕ). Following t k (reverse waiting) more) same f)) in
        subst (AreBelow t above at (entries t top)) (sym (p.whole ∙ none_left (length p.below + at) p.below p.others p.follow)) p.are_below;
    keys = subst (AreApart t top []) (sym (ap keys_of is ∙ keys_reverse own ∙ ap reverse (keys_inside above (entries t top)))) (apart_at_first t proper top);
  }
    where
      own : List Below
      own = map (placed above) (entries t top)

      none_left : (place : ℕ) (below others : List Below) → Following t place [] others → below ++ others ≡ below
      none_left place below others done = append-nil below

  module _ (gone others : List Below) (e : Below) (g : IsGoing t top above at gone (others ++ e ∷ [])) where
    apart : AreApart t top (keys_of gone) (keys_of others ++ e.key ∷ [])
    apart = subst (AreApart t top (keys_of gone)) (map-append (λ e. e.key) others (e ∷ [])) g.keys

    pub going_few : length gone < t.blocks
    going_few = let few = gone_few t proper top (keys_of gone) (keys_of others) e.key apart in omega (arith, few, length_keys gone)
      where
        length_keys : (es : List Below) → length (keys_of es) ≡ length es
        length_keys [] = refl
        length_keys (e ∷ es) = ap suc (length_keys es)

    pub going_there : IsSome (t.nodes e.key)
    going_there = key_there t proper top (keys_of gone) (keys_of others) e.key apart

    pub going_goes_on : (waiting : List Below) → waiting ≡ others ++ reverse (inside t (length gone + at) e) → IsGoing t top above at (gone ++ e ∷ []) waiting
    going_goes_on waiting is = record {
      follows = λ more f.
          let after : length (gone ++ e ∷ []) + at ≡ suc (length gone + at) = omega (arith, length-append gone (e ∷ [])) in
          let turned : reverse waiting ≡ own ++ reverse others = ap reverse is ∙ reverse-append others (reverse own) ∙ ap (λ (es : List Below). es ++ reverse others) (reverse-reverse own) in
          let from_e : Following t (length gone + at) (e ∷ reverse others) (e ∷ more) =
          next (subst (λ (es : List Below). Following t (suc (length gone + at)) es more) turned (subst (λ (k : ℕ). Following t k (reverse waiting) more) after f)) in
          subst (AreBelow t above at (entries t top)) (sym (append_assoc gone (e ∷ []) more))
          (g.follows (e ∷ more) (subst (λ (es : List Below). Following t (length gone + at) es (e ∷ more)) (sym (reverse-append others (e ∷ []))) from_e));
      keys = subst (λ (xs : List ℕ). AreApart t top xs (keys_of waiting)) (sym (map-append (λ e. e.key) gone (e ∷ [])))
          (subst (AreApart t top (keys_of gone ++ e.key ∷ [])) (sym waits) (apart_goes_on t proper top (keys_of gone) (keys_of others) e.key apart));
    }
      where
        own : List Below
        own = inside t (length gone + at) e

        waits : keys_of waiting ≡ keys_of others ++ reverse (entries t e.key)
        waits =
            ap keys_of is ∙ map-append (λ e. e.key) others (reverse own)
            ∙ ap (λ (xs : List ℕ). keys_of others ++ xs) (keys_reverse own ∙ ap reverse (keys_inside (Some (length gone + at)) (entries t e.key)))

  -- when nothing waits, everything was visited
  pub going_ends : (gone waiting : List Below) → waiting ≡ [] → IsGoing t top above at gone waiting → AreBelow t above at (entries t top) gone
  going_ends gone waiting is g =
      subst (AreBelow t above at (entries t top)) (append-nil gone) (g.follows [] (subst (λ (es : List Below). Following t (length gone + at) (reverse es) []) (sym is) done))

-- the entries that a list has grown by were visited, and those wait
pub record GrowsOn (t : Tree) (top : ℕ) (above : Option ℕ) (old found waiting : List Below) : Type 0 where
  pub gone : List Below
  pub grown : found ≡ old ++ gone
  pub going : IsGoing t top above (length old) gone waiting

module _ (t : Tree) (proper : Proper t) (top : ℕ) (above : Option ℕ) (old : List Below) where
  pub grows_first : (waiting : List Below) → waiting ≡ reverse (map (placed above) (entries t top)) → GrowsOn t top above old old waiting
  grows_first waiting is = record { gone = []; grown = sym (append-nil old); going = going_starts t proper top above (length old) waiting is }

  module _ (found others : List Below) (e : Below) (g : GrowsOn t top above old found (others ++ e ∷ [])) where
    pub grows_few : length found < t.blocks + length old
    grows_few = let few = going_few t proper top above (length old) g.gone others e g.going in omega (arith, few, ap length g.grown, length-append old g.gone)

    pub grows_there : IsSome (t.nodes e.key)
    grows_there = going_there t proper top above (length old) g.gone others e g.going

    pub grows_on : (waiting : List Below) → waiting ≡ others ++ reverse (inside t (length found) e) → GrowsOn t top above old (found ++ e ∷ []) waiting
    grows_on waiting is = record {
      gone = g.gone ++ e ∷ [];
      grown = ap (λ (es : List Below). es ++ e ∷ []) g.grown ∙ append_assoc old g.gone (e ∷ []);
      going = going_goes_on t proper top above (length old) g.gone others e g.going waiting
          (subst (λ (k : ℕ). waiting ≡ others ++ reverse (inside t k e)) place is);
    }
      where
        place : length found ≡ length g.gone + length old
        place = omega (arith, ap length g.grown, length-append old g.gone)

  -- when nothing waits, the list has grown by everything below
  pub grown_all : (found waiting : List Below) → waiting ≡ [] → GrowsOn t top above old found waiting → HasGrown t above top old found
  grown_all found waiting is g = record {
    more = g.gone;
    grown = g.grown;
    below = going_ends t proper top above (length old) g.gone waiting is g.going;
    once = g.going.keys.gone_once;
  }
