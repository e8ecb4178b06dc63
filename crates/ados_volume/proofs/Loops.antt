-- No object is below an object that it holds.
use Rattle.ados_volume.proofs.Common.{IsUnder, LeadsToRoot, None, Proper, Some, Tree, ap, at_root, by_parent, itself, option_and_then, parent_of, refl, root, subst, sym, under_parent, ℕ, ◌∙◌, ◌≡◌}

module _ (t : Tree) (proper : Proper t) where
  pub no_parent : (key dir : ℕ) → key ≡ root t → parent_of t key ≡ Some dir → ⊥
  no_parent key dir e p =
      let m = proper.root_node in
      let none : parent_of t key ≡ None = ap (option_and_then (λ node. node.parent)) (ap t.nodes e ∙ m.1) ∙ m.2.no_parent in
      cc (none, p)

  -- one more step up
  extended : (above key dir : ℕ) → parent_of t above ≡ Some dir → IsUnder t above key → IsUnder t dir key
  extended above key dir p (itself e) = under_parent (ap (parent_of t) e ∙ p) (itself refl)
  extended above key dir p (under_parent q u) = under_parent q (extended above _ dir p u)

  pub no_loop : (key dir : ℕ) → LeadsToRoot t key → parent_of t key ≡ Some dir → IsUnder t key dir → ⊥
  no_loop key dir (at_root e) p u = no_parent key dir e p
  no_loop key dir (by_parent {dir = d} q rest) p u =
      let same : d ≡ dir = cc (q, p) in
      up (subst (λ (i : ℕ). LeadsToRoot t i) same rest) u (λ e f g. no_loop d e rest f g) same
    where
      up : LeadsToRoot t dir → IsUnder t key dir → ((e : ℕ) → parent_of t d ≡ Some e → IsUnder t d e → ⊥) → d ≡ dir → ⊥
      up l (itself e) again same = again dir (ap (parent_of t) (same ∙ e) ∙ p) (itself (sym same))
      up l (under_parent {dir = e} r v) again same = again e (ap (parent_of t) same ∙ r) (extended key e d q v)
