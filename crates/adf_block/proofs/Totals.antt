-- Sums of longs.
use Rattle.adf_block.proofs.Common.{◌≡◌, ◌≢◌, ℕ, zero, suc, ◌+◌, ◌*◌, ◌<◌, ◌≤◌, inl, inr, arith, ap₂, refl, add-one, List, ◌^◌, cases_lt, total, block_sum}

-- one more number
pub total-more : (f : ℕ → ℕ) (n : ℕ) → total f (n + 1) ≡ total f n + f n
total-more f n = rw add-one refl

-- equal numbers have equal sums
pub total-same : (f g : ℕ → ℕ) (n : ℕ) → ((j : ℕ) → j < n → g j ≡ f j) → total g n ≡ total f n
total-same f g zero same = refl
total-same f g (suc n) same = ap₂ (λ (x y : ℕ). x + y) (total-same f g n (λ j h. same j (omega arith))) (same n (omega arith))

-- one number changes
pub total-one : (f g : ℕ → ℕ) (k n : ℕ) → k < n → ((j : ℕ) → j < n → j ≢ k → g j ≡ f j) → total g n + f k ≡ total f n + g k
total-one f g k zero lt same = absurd (omega arith)
total-one f g k (suc n) lt same = elim (cases_lt k n) [
  | inl below ↦
      let rest = total-one f g k n below (λ j h ne. same j (omega arith) ne) in
      let last : g n ≡ f n = same n (omega arith) (omega arith) in
      omega (arith, rest, last)
  | inr at ↦
      let e : k ≡ n = omega arith in
      let rest = total-same f g n (λ j h. same j (omega arith) (omega arith)) in
      rw e (omega (arith, rest))
]

-- n numbers of at most m have a sum of at most n * m
pub total-bound : (f : ℕ → ℕ) (m n : ℕ) → ((j : ℕ) → f j ≤ m) → total f n ≤ n * m
total-bound f m zero h = omega arith
total-bound f m (suc n) h = omega (arith, total-bound f m n h, h n)

-- a sum of longs is a long
pub sum_fits : (image : List ℕ) (b : ℕ) → block_sum image b < 2 ^ 32
unfolding block_sum
sum_fits image b = omega arith
