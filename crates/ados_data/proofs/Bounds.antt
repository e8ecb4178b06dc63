-- A bound below which no block is free.
use Rattle.ados_data.proofs.Common.{◌≡◌, ℕ, ◌≤◌, ◌<◌, List, length, slice_index, inl, inr, false, subst, arith, block_count, has_free_bit, IsInside, NoneFreeBelow, Gains}

-- no used block became free
pub below_stays : (old new : List ℕ) (from : ℕ) → block_count new ≡ block_count old
    → ((c : ℕ) → IsInside (block_count old) c → has_free_bit old c ≡ false → has_free_bit new c ≡ false) → NoneFreeBelow old from → NoneFreeBelow new from
below_stays old new from count used none k inside lt =
    let was = subst (λ (n : ℕ). IsInside n k) count inside in
    used k was (none k was lt)

-- no block is free below an allocated data block
pub below_taken : (old new : List ℕ) (file : ℕ) (blocks extensions blocks' extensions' : List ℕ) → block_count new ≡ block_count old → Gains old file blocks extensions new blocks' extensions'
    → (i : ℕ) → length blocks ≤ i → i < length blocks' → IsInside (block_count new) (slice_index blocks' i) → has_free_bit new (slice_index blocks' i) ≡ false → NoneFreeBelow new (slice_index blocks' i)
below_taken old new file blocks extensions blocks' extensions' count gains i behind within inside used k k_inside lt =
    elim (gains.data_blocks_of i within) [
      | inl known ↦ absurd (omega (arith, behind, known.0))
      | inr free ↦ gains.lowest k (slice_index blocks' i) (subst (λ (n : ℕ). IsInside n (slice_index blocks' i)) count inside) k_inside.0 lt free.1 used
    ]
