-- A bound below which no block is free, after a change.
use Rattle.ados_volume.proofs.Common.{Bool, Duty, HasFreeBit, IsInside, IsSome, KeepsRest, List, NoneFreeBelow, OnlyRestamped, Restamped, Stands, Tree, ap, arith, beside_pages, block_count, false, false≢true, has_free_bit, inl, inr, length, page_block, pages_of, refl, root_serves, same_count, sym, true, ℕ, ◌/◌, ◌<◌, ◌∙◌, ◌≡◌}
use Rattle.ados_map.proofs.MarkLemmas.{bit_of_inside, mark_kept}
use Rattle.ados_data.proofs.Bounds.{below_stays}
use Rattle.ados_model.specs.Faults.{root_of}

-- the boot blocks have no bit
pub below_boot : (image : List ℕ) → NoneFreeBelow image 2
below_boot image k inside lt = absurd (omega (arith, inside.0, lt))

-- no block became free
pub below_kept : (old new : List ℕ) (from : ℕ) → length new ≡ length old → ((b : ℕ) → IsInside (block_count old) b → HasFreeBit new b → HasFreeBit old b) → NoneFreeBelow old from → NoneFreeBelow new from
below_kept old new from size was = below_stays old new from (ap (λ (n : ℕ). n / 512) size) (λ b inside used. go b inside used (has_free_bit new b) refl)
  where
    go : (b : ℕ) → IsInside (block_count old) b → has_free_bit old b ≡ false → (v : Bool) → has_free_bit new b ≡ v → has_free_bit new b ≡ false
    go b inside used false e = e
    go b inside used true e = absurd (false≢true (sym used ∙ was b inside e))

-- only the fields of a node changed
pub below_restamped : (old new : List ℕ) (t : Tree) (s : Stands old t) (key low high : ℕ) → IsSome (t.nodes key) → OnlyRestamped key low high old new → KeepsRest old new → (from : ℕ) → NoneFreeBelow old from → NoneFreeBelow new from
below_restamped old new t s key low high node rest keeps from =
    below_stays old new from (same_count (Restamped (root_of old) key low high) old new rest)
    (λ b inside used. mark_kept (Restamped (root_of old) key low high) old new rest keeps.untold.past_end.pages (λ p k l m. off p k l) b (bit_of_inside old b inside) ∙ used)
  where
    beside : (b : ℕ) → IsSome (t.nodes b) → (p : ℕ) → p < pages_of old → ¬ (page_block old p ≡ b)
    beside b some p l e = beside_pages old t s b Duty.Key some (λ q z. cc z) p l (sym e)

    off : (p k : ℕ) → p < pages_of old → ¬ Restamped (root_of old) key low high (page_block old p) k
    off p k l (inl (inl w)) = beside key node p l w.0
    off p k l (inl (inr w)) = beside key node p l w.0
    off p k l (inr (inl w)) = beside (root_of old) (root_serves old t s) p l w.0
    off p k l (inr (inr w)) = beside (root_of old) (root_serves old t s) p l w.0
