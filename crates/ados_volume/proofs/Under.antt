-- A key is below another if a chain of parents leads to that. `is_under` finds this within as many steps as there are
-- blocks.
use Rattle.std.proofs.lemmas.List.Folds.{list_any_at}
use Rattle.std.proofs.lemmas.List.Kept.{AllPairs-cons}
use Rattle.std.proofs.lemmas.Map.Views.{Contains-from_any}
use Rattle.ados_volume.proofs.Common.{Contains, Contains-cases, Contains-get_or, Contains-here, Contains-later, Contains-nil, IsSome, IsTrue, IsUnder, LeadsToRoot, List, None, Once, Option, Proper, Tree, [], ap, arith, at_root, by_parent, eq-eqb, eqb-true, inl, inr, is_under, itself, length, length-once, list_any, option_and_then, option_map_or, parent_in, parent_of, refl, some_in, subst, suc, sym, true, under_parent, upward, zero, ℕ, ◌+◌, ◌<◌, ◌==◌, ◌↔◌, ◌∙◌, ◌∷◌, ◌≡◌, ◌≢◌, ◌≤◌}
use Rattle.ados_volume.proofs.Loops.{no_loop, no_parent}

module _ (t : Tree) (proper : Proper t) where
  -- the key and all directories above it
  line : (key : ℕ) → LeadsToRoot t key → List ℕ
  line key (at_root e) = key ∷ []
  line key (by_parent {dir = dir} p rest) = key ∷ line dir rest

  in_line : (key above : ℕ) (l : LeadsToRoot t key) → Contains (line key l) above → IsUnder t above key
  unfolding line
  in_line key above (at_root e) c = elim (Contains-cases key [] above c) [ inl same ↦ itself same | inr none ↦ absurd (Contains-nil above none) ]
  in_line key above (by_parent {dir = dir} p rest) c = elim (Contains-cases key (line dir rest) above c) [
    | inl same ↦ itself same
    | inr later ↦ under_parent p (in_line dir above rest later)
  ]

  on_line : (key above : ℕ) (l : LeadsToRoot t key) → IsUnder t above key → Contains (line key l) above
  unfolding line
  on_line key above (at_root e) (itself same) = subst (Contains (key ∷ [])) same (Contains-here key [])
  on_line key above (at_root e) (under_parent {dir = d} q u) = absurd (no_parent t proper key d e q)
  on_line key above (by_parent {dir = dir} p rest) (itself same) = subst (Contains (key ∷ line dir rest)) same (Contains-here key (line dir rest))
  on_line key above (by_parent {dir = dir} p rest) (under_parent {dir = d} q u) =
      let same : d ≡ dir = cc (q, p) in
      Contains-later key (line dir rest) above (on_line dir above rest (subst (IsUnder t above) same u))

  -- each of them is a node, and none occurs twice
  line_inside : (key : ℕ) (l : LeadsToRoot t key) (x : ℕ) → Contains (line key l) x → x < t.blocks
  unfolding line
  line_inside key (at_root e) x c = elim (Contains-cases key [] x c) [
    | inl same ↦ let m = proper.root_node in (proper.inside x m.0 (ap t.nodes (sym same ∙ e) ∙ m.1)).1
    | inr none ↦ absurd (Contains-nil x none)
  ]
  line_inside key (by_parent {dir = dir} p rest) x c = elim (Contains-cases key (line dir rest) x c) [
    | inl same ↦ let n = parent_in (t.nodes key) dir p in (proper.inside x n.0 (ap t.nodes (sym same) ∙ n.1)).1
    | inr later ↦ line_inside dir rest x later
  ]

  line_once : (key : ℕ) (l : LeadsToRoot t key) → Once (line key l)
  unfolding line
  line_once key (at_root e) = λ i j d l m same. omega (arith, l, m)
  line_once key (by_parent {dir = dir} p rest) =
      AllPairs-cons (λ j k. j ≢ k) key (line dir rest)
      (λ k d inside same. no_loop t proper key dir (by_parent p rest) p (in_line dir key rest (subst (Contains (line dir rest)) (sym same) (Contains-get_or (line dir rest) k d inside))))
      (line_once dir rest)

  line_short : (key : ℕ) (l : LeadsToRoot t key) → length (line key l) ≤ t.blocks
  line_short key l = length-once (line key l) t.blocks (line_once key l) (line_inside key l)

  upward_line : (n key : ℕ) (l : LeadsToRoot t key) → length (line key l) ≤ n + 1 → upward t n key ≡ line key l
  unfolding line
  upward_line zero key (at_root e) short = refl
  upward_line zero key (by_parent {dir = dir} p rest) short = absurd (long dir rest short)
    where
      long : (dir : ℕ) (rest : LeadsToRoot t dir) → length (key ∷ line dir rest) ≤ 0 + 1 → ⊥
      long dir (at_root e) h = omega (arith, h)
      long dir (by_parent p r) h = omega (arith, h)
  upward_line (suc n) key (at_root e) short =
      let m = proper.root_node in
      let none : parent_of t key ≡ None = ap (option_and_then (λ node. node.parent)) (ap t.nodes e ∙ m.1) ∙ m.2.no_parent in
      ap (λ (o : Option ℕ). key ∷ option_map_or (upward t n) o []) none
  upward_line (suc n) key (by_parent {dir = dir} p rest) short =
      ap (λ (o : Option ℕ). key ∷ option_map_or (upward t n) o []) p ∙ ap (λ (xs : List ℕ). key ∷ xs) (upward_line n dir rest (omega (arith, short)))

-- a test of a list finds an element of it
found_in : (xs : List ℕ) (x : ℕ) → Contains xs x → list_any (λ k. k == x) xs ≡ true
found_in xs x c = list_any_at (λ k. k == x) xs c.0 x c.1 (eq-eqb _ x c.2)

in_found : (xs : List ℕ) (x : ℕ) → list_any (λ k. k == x) xs ≡ true → Contains xs x
in_found xs x h = Contains-from_any {eq = λ q k. k == q} (λ q k e. sym (eqb-true k q e)) x xs h

pub under_is_told : (t : Tree) → Proper t → (above key : ℕ) → IsSome (t.nodes key) → IsTrue (is_under t above key) ↔ IsUnder t above key
under_is_told t proper above key there =
    let n = some_in (t.nodes key) there in
    let l = proper.rooted key n.0 n.1 in
    let same = upward_line t proper t.blocks key l (let short = line_short t proper key l in omega (arith, short)) in (
      λ h. in_line t proper key above l (in_found (line t proper key l) above (sym (ap (list_any (λ k. k == above)) same) ∙ h)),
      λ u. ap (list_any (λ k. k == above)) same ∙ found_in (line t proper key l) above (on_line t proper key above l u),
    )
