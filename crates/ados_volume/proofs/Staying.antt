-- A volume is still sound after a change.
use Rattle.ados_volume.proofs.Common.{AreChildren, AreKnown, AreListed, AreWhole, IsListed, BTreeMap, BTreeSet, Contains, Content, Date3, Enters, Forgets, HasPair, IsSome, KeepsRest, List, Node, None, NoneFreeBelow, OnlyRestamped, Place, Some, Sought, Stands, Tree, [], ap, changed, child_of, entries, entries_in, inl, inr, name_of, none-some, one_tree, refl, stamped, subst, sym, ℕ, ◌∙◌, ◌≡◌, ◌≢◌, ◌⊎◌}
use Rattle.ados_volume.specs.steps.SoundVolume.{IsSoundVolume}
use Rattle.ados_volume.proofs.Bounds.{below_restamped}
use Rattle.ados_volume.proofs.Cached.{child_same, more, none_whole}
use Rattle.ados_volume.proofs.Children.{AllStay, HaveSame, Stays, carried, changed_same, child_there, told_stay, whole_carried}
use Rattle.ados_volume.proofs.Kept.{none_listed}
use Rattle.ados_volume.proofs.Known.{Lasts, changed_last, known_carried, none_known}

module _ {old : List ℕ} {names : BTreeMap Sought ℕ} {whole : BTreeSet ℕ} {told : List (ℕ × ℕ)} {places : List (ℕ × Place)} {from : ℕ} (sound : IsSoundVolume old names whole told places from) where
  -- with other names, listed entries or places
  pub with_names : (others : BTreeMap Sought ℕ) (marks : BTreeSet ℕ) → AreChildren old others → AreWhole old others marks → IsSoundVolume old others marks told places from
  with_names others marks children slots = record { tree = sound.tree; children = children; slots = slots; listed = sound.listed; known = sound.known; bound = sound.bound }

  pub with_told : (others : List (ℕ × ℕ)) → AreListed old others → IsSoundVolume old names whole others places from
  with_told others listed = record { tree = sound.tree; children = sound.children; slots = sound.slots; listed = listed; known = sound.known; bound = sound.bound }

  pub with_places : (others : List (ℕ × Place)) → AreKnown old others → IsSoundVolume old names whole told others from
  with_places others known = record { tree = sound.tree; children = sound.children; slots = sound.slots; listed = sound.listed; known = known; bound = sound.bound }

  -- the image is unchanged, and there are other places
  pub unchanged_sound : (new : List ℕ) → new ≡ old → (others : List (ℕ × Place)) → AreKnown old others → IsSoundVolume new names whole told others from
  unchanged_sound new same others known = subst (λ (image : List ℕ). IsSoundVolume image names whole told others from) (sym same) (with_places others known)

  module _ (new : List ℕ) (u : Tree) (r : Stands new u) where
    -- the entries are the same
    pub entries_sound : HaveSame sound.tree.0 u → (others : List (ℕ × Place)) → AreKnown new others → (later : ℕ) → NoneFreeBelow new later → IsSoundVolume new names whole told others later
    entries_sound same others known later bound = record {
      tree = (u, r);
      children = carried old new sound.tree.0 u sound.tree.1 r names names sound.children (λ dir key name p. (p, λ child. same.0 dir key));
      slots = whole_carried old new sound.tree.0 u sound.tree.1 r names names whole sound.slots (λ dir key c. inl (same.1 dir key c, λ p. p));
      listed = told_stay old new sound.tree.0 u sound.tree.1 r told sound.listed same.0;
      known = known;
      bound = bound;
    }

    -- the entries are the same, and files stay
    pub files_sound : HaveSame sound.tree.0 u → u.format ≡ sound.tree.0.format → KeepsRest old new → ((file : ℕ) → Lasts sound.tree.0 u file)
        → (others : List (ℕ × Place)) → AreKnown old others → (later : ℕ) → NoneFreeBelow new later → IsSoundVolume new names whole told others later
    files_sound same format keeps lasts others known later bound =
        entries_sound same others (known_carried old new keeps sound.tree.0 u sound.tree.1 r format others known lasts) later bound

    -- entries stay, and a new one is in the caches
    pub entered_sound : AllStay sound.tree.0 u → (dir : ℕ) (name : List ℕ) (key : ℕ) → child_of sound.tree.0 dir name ≡ None → child_of u dir name ≡ Some key
        → ((d k : ℕ) → Contains (entries u d) k → Stays u sound.tree.0 d k ⊎ ((d ≡ dir) × (k ≡ key) × (name_of u k ≡ name)))
        → (others : BTreeMap Sought ℕ) (marks : BTreeSet ℕ) → Enters names whole dir name key others marks
        → (kept : List (ℕ × ℕ)) → (IsListed new dir key → AreListed new told → AreListed new kept)
        → (no_places : List (ℕ × Place)) → no_places ≡ [] → (later : ℕ) → NoneFreeBelow new later → IsSoundVolume new others marks kept no_places later
    entered_sound stay dir name key absent child from others marks enters kept keeps no_places none_places later bound = record {
      tree = (u, r);
      children = more new names others dir name key now enters.adds (λ v w. subst (λ (x : Tree). child_of x dir name ≡ Some key) (one_tree new u v r w) child);
      slots = elim enters.whole [ inl kept ↦ slots kept.0 kept.1 | inr cleared ↦ none_whole new others marks cleared ];
      listed = keeps (λ v w. subst (λ (x : Tree). Contains (entries x dir) key) (one_tree new u v r w) (child_there u dir key name child).0) (told_stay old new sound.tree.0 u sound.tree.1 r told sound.listed stay);
      known = none_known new no_places none_places;
      bound = bound;
    }
      where
        now : AreChildren new names
        now = carried old new sound.tree.0 u sound.tree.1 r names names sound.children (λ d k n p. (p, λ was. stay d k))

        -- the pairs of before are in the cache
        still : (d : ℕ) (n : List ℕ) (k : ℕ) → HasPair names d n k → HasPair others d n k
        still d n k p = elim (enters.keeps d n k p) [
          | inl stays ↦ stays
          | inr put ↦
              let was : child_of sound.tree.0 d n ≡ Some k = sound.children d n k p sound.tree.0 sound.tree.1 in
              absurd (none-some k (sym absent ∙ sym (child_same sound.tree.0 dir n name put.1) ∙ ap (λ (b : ℕ). child_of sound.tree.0 b n) (sym put.0) ∙ was))
        ]

        slots : marks ≡ whole → HasPair others dir name key → AreWhole new others marks
        slots same there =
            subst (λ (m : BTreeSet ℕ). AreWhole new others m) (sym same)
            (whole_carried old new sound.tree.0 u sound.tree.1 r names others whole sound.slots
            (λ d k c. elim (from d k c) [
              | inl was ↦ inl (was c, still d (name_of sound.tree.0 k) k)
              | inr is ↦ inr (subst (λ (b : ℕ). HasPair others b (name_of u k) k) (sym is.0) (subst (λ (n : List ℕ). HasPair others dir n k) (sym is.2) (subst (λ (j : ℕ). HasPair others dir name j) (sym is.1) there)))
            ]))

    -- one object was forgotten, and the other entries stay
    pub forgotten_sound : (key : ℕ) (left : BTreeMap Sought ℕ) → Forgets old key names left → (no_marks : BTreeSet ℕ) → no_marks.keys ≡ [] → ((dir k : ℕ) → k ≢ key → Stays sound.tree.0 u dir k)
        → (no_told : List (ℕ × ℕ)) → no_told ≡ [] → (no_places : List (ℕ × Place)) → no_places ≡ [] → (later : ℕ) → NoneFreeBelow new later → IsSoundVolume new left no_marks no_told no_places later
    forgotten_sound key left forgotten no_marks none_marks stays no_told none_told no_places none_places later bound = record {
      tree = (u, r);
      children = carried old new sound.tree.0 u sound.tree.1 r names left sound.children (λ dir k name p.
          let f = forgotten dir name k p in
          (f.0, λ child. stays dir k (λ e. f.1 sound.tree.0 sound.tree.1 (child ∙ ap Some e))));
      slots = none_whole new left no_marks none_marks;
      listed = none_listed new no_told none_told;
      known = none_known new no_places none_places;
      bound = bound;
    }

  -- only fields of a node change, and the name only of the root
  pub restamped_sound : (new : List ℕ) (moment : Date3) (key low high : ℕ) (f : Node → Node) → ((a : Node) → (f a).content ≡ a.content)
      → ((dir : ℕ) (a : Node) → Contains (entries sound.tree.0 dir) key → sound.tree.0.nodes key ≡ Some a → (f a).name ≡ a.name) → IsSome (sound.tree.0.nodes key)
      → OnlyRestamped key low high old new → KeepsRest old new → Stands new (stamped moment (changed key f sound.tree.0)) → IsSoundVolume new names whole told places from
  restamped_sound new moment key low high f contents titles there rest keeps r =
      let t = sound.tree.0 in
      files_sound new (stamped moment (changed key f t)) r (changed_same t key f (λ a e. ap (λ (c : Content). entries_in (Some c)) (contents a)) titles) refl keeps (changed_last t key f contents)
      places sound.known from (below_restamped old new t sound.tree.1 key low high there rest keeps from sound.bound)
