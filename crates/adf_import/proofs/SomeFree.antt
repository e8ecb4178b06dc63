-- A free block is room for one more entry.
use Rattle.std.proofs.Common.{◌≡◌, ℕ, zero, suc, ◌+◌, ◌-◌, ◌<◌, ◌≤◌, ◌⊎◌, Bool, false, inl, inr, cond, List, ap, ◌∙◌, subst, arith, le-ltb}
use Rattle.std.proofs.lemmas.Bool.{cases_eq}
use Rattle.adf_block.specs.Image.{block_count, has_free_bit, total}
use Rattle.ados_model.specs.Reads.{lacks}
use Rattle.ados_model.specs.Stands.{Stands}
use Rattle.ados_model.specs.Tree.{Tree, free}
use Rattle.ados_volume.proofs.Common.{IsLowestFree, free_bits_count}

total_some : (f : ℕ → ℕ) (n k : ℕ) → k < n → f k ≡ 1 → 1 ≤ total f n
total_some f zero k l e = absurd (omega (arith, l))
total_some f (suc n) k l e = go (total_some f n k) (cases_eq n k)
  where
    go : (k < n → f k ≡ 1 → 1 ≤ total f n) → (n ≡ k) ⊎ (n ≡ k → ⊥) → 1 ≤ total f (suc n)
    go before (inl same) = omega (arith, ap f same, e)
    go before (inr other) = omega (arith, before (omega (arith, l, other)) e)

pub lowest_free_room : (image : List ℕ) (t : Tree) (s : Stands image t) (key : ℕ) → IsLowestFree image key → lacks t 1 ≡ false
lowest_free_room image t s key low =
    let back : (key - 2) + 2 ≡ key = omega (arith, low.inside.0) in
    let some = total_some (λ k. cond (has_free_bit image (k + 2)) 1 0) (block_count image - 2) (key - 2) (omega (arith, low.inside.0, low.inside.1))
    (ap {B = ℕ} (λ (b : Bool). cond b 1 0) (ap (has_free_bit image) back ∙ low.free)) in
    le-ltb (free t) 1 (subst (λ (n : ℕ). 1 ≤ n) (free_bits_count image t s) some)
