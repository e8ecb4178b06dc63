-- Everything below a directory: no key is below itself or occurs twice, so there are fewer keys than blocks.
use Rattle.adf_export.proofs.Common.{◌≡◌, ◌≢◌, ℕ, zero, suc, ◌+◌, ◌<◌, ◌≤◌, inl, inr, List, [], ◌∷◌, ◌++◌, length, Contains, Some, refl, sym, ap, ◌∙◌, subst, arith, flat_map, Once, Contains-cases, Contains-nil, length-once, Once-cons, Node, Tree, Proper, LeadsToRoot, name_of, parent_of, by_parent, parent_in, below, front, listing, ListOrder, ordered, with_below}
use Rattle.adf_export.proofs.Sorting.{ordered_has, ordered_once}
use Rattle.adf_export.proofs.Lists.{Once-joined, in_joined, length-joined}
use Rattle.ados_change.specs.Conditions.{IsUnder}
use Rattle.ados_change.specs.Conditions.IsUnder.{itself, by_parent as under_parent}
use Rattle.ados_volume.proofs.AllBelow.{StandsUnder}
use Rattle.ados_volume.proofs.Loops.{no_loop}

-- the keys below a directory, to a depth of n
unfoldable pub keys_below : Tree → ListOrder → ℕ → ℕ → List ℕ
keys_below t order zero dir = []
keys_below t order (suc n) dir = flat_map (λ key. key ∷ keys_below t order n key) (ordered t order dir)

-- there are as many keys as listed entries
same_length : (t : Tree) (order : ListOrder) (n : ℕ) (before : List ℕ) (dir : ℕ) → length (below t order n before dir) ≡ length (keys_below t order n dir)
unfolding below keys_below
same_length t order zero before dir = refl
same_length t order (suc n) before dir =
    length-joined (with_below t order n before) (λ key. key ∷ keys_below t order n key)
    (λ key. ap suc (same_length t order n (before ++ name_of t key ++ 47 ∷ []) key))
    (ordered t order dir)

module _ (t : Tree) (order : ListOrder) (proper : Proper t) where
  -- one more step at the upper end
  from_above : (dir key next : ℕ) → parent_of t key ≡ Some dir → IsUnder t key next → IsUnder t dir next
  from_above dir key next p (itself e) = under_parent (ap (parent_of t) e ∙ p) (itself refl)
  from_above dir key next p (under_parent {dir = d} q u) = under_parent q (from_above dir key d p u)

  not_below_itself : (key : ℕ) → LeadsToRoot t key → StandsUnder t key key → ⊥
  not_below_itself key l (dir, p, u) = no_loop t proper key dir l p u

  -- of two entries of a directory, nothing is at or below both
  below_one : (dir j k x : ℕ) → LeadsToRoot t dir → parent_of t j ≡ Some dir → parent_of t k ≡ Some dir → j ≢ k → IsUnder t j x → IsUnder t k x → ⊥
  below_one dir j k x l p q other (itself e) (itself f) = other (sym e ∙ f)
  below_one dir j k x l p q other (itself e) (under_parent {dir = d} r u) =
      let same : d ≡ dir = cc (ap (parent_of t) e, p, r) in
      no_loop t proper k dir (by_parent q l) q (subst (IsUnder t k) same u)
  below_one dir j k x l p q other (under_parent {dir = d} r u) (itself f) =
      let same : d ≡ dir = cc (ap (parent_of t) f, q, r) in
      no_loop t proper j dir (by_parent p l) p (subst (IsUnder t j) same u)
  below_one dir j k x l p q other (under_parent {dir = d} r u) (under_parent {dir = e} s v) =
      let same : e ≡ d = cc (r, s) in
      below_one dir j k d l p q other u (subst (IsUnder t k) same v)

  pub parent_of_entry : (dir key : ℕ) → Contains (ordered t order dir) key → parent_of t key ≡ Some dir
  parent_of_entry dir key m = (proper.listed dir key).0 (ordered_has t order dir key m)

  keys_are_below : (n dir key : ℕ) → Contains (keys_below t order n dir) key → StandsUnder t dir key
  unfolding keys_below
  keys_are_below zero dir key m = absurd (Contains-nil key m)
  keys_are_below (suc n) dir key m =
      let r = in_joined (λ k. k ∷ keys_below t order n k) (ordered t order dir) key m in
      let p = parent_of_entry dir r.0 r.1 in
      elim (Contains-cases r.0 (keys_below t order n r.0) key r.2) [
        | inl same ↦ (dir, subst (λ (k : ℕ). parent_of t k ≡ Some dir) same p, itself refl)
        | inr later ↦ (let b = keys_are_below n r.0 key later in (b.0, b.1, from_above dir r.0 b.0 p b.2))
      ]

  at_or_below : (n j x : ℕ) → Contains (j ∷ keys_below t order n j) x → IsUnder t j x
  at_or_below n j x m = elim (Contains-cases j (keys_below t order n j) x m) [
    | inl same ↦ itself (sym same)
    | inr later ↦ (let b = keys_are_below n j x later in under_parent b.1 b.2)
  ]

  keys_once : (n dir : ℕ) → LeadsToRoot t dir → Once (keys_below t order n dir)
  unfolding keys_below
  keys_once zero dir l = λ i j d h m same. omega (arith, m)
  keys_once (suc n) dir l =
      Once-joined (λ k. k ∷ keys_below t order n k) (ordered t order dir) (ordered_once t order dir (proper.once dir))
      (λ k m.
      let to_root = by_parent (parent_of_entry dir k m) l in
      Once-cons k (keys_below t order n k) (λ c. not_below_itself k to_root (keys_are_below n k k c)) (keys_once n k to_root))
      (λ j k x a b other m o. below_one dir j k x l (parent_of_entry dir j a) (parent_of_entry dir k b) other (at_or_below n j x m) (at_or_below n k x o))

  key_inside : (dir key : ℕ) → StandsUnder t dir key → key < t.blocks
  key_inside dir key (above, p, u) = let n = parent_in (t.nodes key) above p in (proper.inside key n.0 n.1).1

  -- there are fewer entries below an object than blocks
  pub listing_short : (dir : ℕ) (node : Node) → t.nodes dir ≡ Some node → length (listing t order dir) + 1 ≤ t.blocks
  listing_short dir node is =
      let keys = keys_below t order t.blocks dir in
      let rooted = proper.rooted dir node is in
      let once = Once-cons dir keys (λ c. not_below_itself dir rooted (keys_are_below t.blocks dir dir c)) (keys_once t.blocks dir rooted) in
      let short = length-once (dir ∷ keys) t.blocks once
      (λ x c. elim (Contains-cases dir keys x c) [
        | inl same ↦ subst (λ (k : ℕ). k < t.blocks) same (proper.inside dir node is).1
        | inr later ↦ key_inside dir x (keys_are_below t.blocks dir x later)
      ]) in
      omega (arith, short, same_length t order t.blocks (front t t.blocks dir) dir)
