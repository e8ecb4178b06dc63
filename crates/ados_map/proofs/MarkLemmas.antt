-- The marks after a change, and the number of free blocks.
use Rattle.ados_map.proofs.Common.{◌≡◌, ℕ, ◌-◌, ◌%◌, ◌<◌, List, arith, ap, sym, ◌∙◌, long, block_count, IsInside, has_free_bit, SameBut, same_long, page_block, pages_of, page_of, map_long, HasBit}
use Rattle.ados_map.proofs.BitLemmas.{mark, marked-is}

-- ---- no bitmap block changed

-- the marks stay the same if the root names the same bitmap blocks and these did not change
pub mark_kept : (changed : ℕ → ℕ → Type 0) (old new : List ℕ) → SameBut changed old new
    → ((p : ℕ) → p < pages_of old → page_block new p ≡ page_block old p) → ((p k : ℕ) → p < pages_of old → k < 512 → ¬ changed (page_block old p) k)
    → (k : ℕ) → HasBit old k → has_free_bit new k ≡ has_free_bit old k
mark_kept changed old new h named un k has =
    let page : page_of k < pages_of old = omega (arith, has.0, has.1) in
    marked-is new k
    ∙ ap (λ (b : ℕ). mark (long new b (map_long k)) ((k - 2) % 32)) (named (page_of k) page)
    ∙ ap (λ (v : ℕ). mark v ((k - 2) % 32)) (same_long changed old new h (page_block old (page_of k)) (map_long k) (omega arith) (λ i e. un (page_of k) i page (omega arith)))
    ∙ sym (marked-is old k)

-- a block inside the volume has a bit
pub bit_of_inside : (image : List ℕ) (k : ℕ) → IsInside (block_count image) k → HasBit image k
bit_of_inside image k inside = (inside.0, omega (arith, inside.0, inside.1))
