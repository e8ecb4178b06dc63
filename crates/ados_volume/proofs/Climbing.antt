-- A walk up from directory to directory, and whether it meets a key.
use Rattle.ados_volume.proofs.Common.{Bool, None, Some, Tree, [], ap, eq-eqb, false, list_any, ne_eqb, option_map_or, parent_of, suc, true, upward, zero, ℕ, ◌==◌, ◌||◌, ◌≡◌, ◌≢◌}

-- the key is `above`, or n steps up meet it
abbrev pub meets : Tree → ℕ → ℕ → ℕ → Bool
meets t above steps key = list_any (λ k. k == above) (upward t steps key)

module _ (t : Tree) (above key : ℕ) where
  pub met : (steps : ℕ) → key ≡ above → meets t above steps key ≡ true
  met zero same = ap (λ (b : Bool). b || false) (eq-eqb key above same)
  met (suc steps) same = ap (λ (b : Bool). b || list_any (λ k. k == above) (option_map_or (upward t steps) (parent_of t key) [])) (eq-eqb key above same)

  pub ends : (steps : ℕ) → key ≢ above → parent_of t key ≡ None → meets t above steps key ≡ false
  ends zero other none = ap (λ (b : Bool). b || false) (ne_eqb key above other)
  ends (suc steps) other none = λ i. ne_eqb key above other i || list_any (λ k. k == above) (option_map_or (upward t steps) (none i) [])

  pub climbs : (steps dir : ℕ) → key ≢ above → parent_of t key ≡ Some dir → meets t above (suc steps) key ≡ meets t above steps dir
  climbs steps dir other up = λ i. ne_eqb key above other i || list_any (λ k. k == above) (option_map_or (upward t steps) (up i) [])
