-- Lawful bitmap blocks stay lawful, and the effect of a change of one of them on the marks.
use Rattle.ados_map.proofs.Common.{◌≡◌, ◌≢◌, ℕ, ◌+◌, ◌-◌, ◌/◌, ◌%◌, ◌<◌, ◌≤◌, ◌⊎◌, inl, inr, Bool, List, arith, ap, ap₂, sym, ◌∙◌, cases_eq, bit_at, FIRST_PAGE, PAGE_LONGS, BITMAP_EXTENSION, long, block_count, block_sum, root_key, page_count, IsInside, SameBut, same_count, same_long, LawfulPages, page_block, pages_of, page_of, map_long, HasBit, InPages, MapPlace, BitChanged, IsBitPut}
use Rattle.ados_map.proofs.BitLemmas.{mark, marked-is, mark-bit, mark-same}

-- the root names the same bitmap blocks if its longs for them did not change
pub same_page : (changed : ℕ → ℕ → Type 0) (old new : List ℕ) → SameBut changed old new → ((k : ℕ) → FIRST_PAGE ≤ k / 4 → k / 4 < BITMAP_EXTENSION → ¬ changed (root_key (block_count old)) k)
    → (p : ℕ) → p < PAGE_LONGS → page_block new p ≡ page_block old p
same_page changed old new h un p lt =
    ap (λ (n : ℕ). long new (root_key n) (FIRST_PAGE + p)) (same_count changed old new h)
    ∙ same_long changed old new h (root_key (block_count old)) (FIRST_PAGE + p) (omega arith) (λ k e. un k (omega arith) (omega arith))

-- bitmap blocks that the root names as before are lawful as before
pub lawful_kept : (old new : List ℕ) → LawfulPages old → block_count new ≡ block_count old → ((p : ℕ) → p < pages_of old → page_block new p ≡ page_block old p) → LawfulPages new
lawful_kept old new h count same =
    let pages : pages_of new ≡ pages_of old = ap page_count count in
    record {
      inside = λ p lt.
          let below : p < pages_of old = omega (arith, pages) in
          let at = same p below in
          let was = h.inside p below in
          (omega (arith, at, was.0), omega (arith, at, was.1, count));
      apart = λ p q p_lt q_lt e.
          let p_below : p < pages_of old = omega (arith, pages) in
          let q_below : q < pages_of old = omega (arith, pages) in
          h.apart p q p_below q_below (sym (same p p_below) ∙ e ∙ same q q_below);
      beside_root = λ p lt e.
          let below : p < pages_of old = omega (arith, pages) in
          h.beside_root p below (sym (same p below) ∙ e ∙ ap root_key count);
    }

-- a change outside those longs keeps the bitmap blocks lawful
pub lawful_beside_root : (changed : ℕ → ℕ → Type 0) (old new : List ℕ) → SameBut changed old new → ((k : ℕ) → FIRST_PAGE ≤ k / 4 → k / 4 < BITMAP_EXTENSION → ¬ changed (root_key (block_count old)) k)
    → block_count old ≤ 101602 → LawfulPages old → LawfulPages new
lawful_beside_root changed old new h un size lawful =
    lawful_kept old new lawful (same_count changed old new h) (λ p lt. same_page changed old new h un p (omega arith))

-- a change inside the bitmap blocks keeps them lawful
pub lawful_in_pages : (old new : List ℕ) → SameBut (InPages old) old new → block_count old ≤ 101602 → LawfulPages old → LawfulPages new
lawful_in_pages old new h size lawful =
    lawful_beside_root (InPages old) old new h (λ k low high at. lawful.beside_root at.0 at.1 (sym at.2)) size lawful

-- a bit other than the changed one
other_mark : (old new : List ℕ) (k : ℕ) (free : Bool) → LawfulPages old → block_count old ≤ 101602 → IsInside (block_count old) k → SameBut (MapPlace old k) old new
    → IsBitPut (long old (page_block old (page_of k)) (map_long k)) ((k - 2) % 32) free (long new (page_block old (page_of k)) (map_long k))
    → (j : ℕ) → HasBit old j → j ≢ k
    → mark (long new (page_block old (page_of j)) (map_long j)) ((j - 2) % 32) ≡ mark (long old (page_block old (page_of j)) (map_long j)) ((j - 2) % 32)
other_mark old new k free lawful size inside rest put j has ne =
    let b = page_block old (page_of k) in
    let l = map_long k in
    let in_page : page_of j < pages_of old = omega (arith, has.0, has.1) in
    let k_page : page_of k < pages_of old = omega (arith, inside.0, inside.1) in
    let kept : (page_block old (page_of j) ≢ b) ⊎ (map_long j ≢ l) → long new (page_block old (page_of j)) (map_long j) ≡ long old (page_block old (page_of j)) (map_long j) =
    λ apart. same_long (MapPlace old k) old new rest (page_block old (page_of j)) (map_long j) (omega arith) (λ i e at. elim at.1 [
      | inl sum ↦ absurd (omega (arith, e, sum))
      | inr long ↦ elim apart [ inl other ↦ other at.0 | inr other ↦ other (sym e ∙ long) ]
    ]) in
    elim (cases_eq (page_of j) (page_of k)) [
      | inl page ↦ elim (cases_eq (map_long j) (map_long k)) [
        | inl same ↦
            let other_bit : (j - 2) % 32 ≢ (k - 2) % 32 = λ e. ne (omega (arith, page, same, e, has.0, inside.0)) in
            let at : page_block old (page_of j) ≡ b = ap (page_block old) page in
            mark-same (long new (page_block old (page_of j)) (map_long j)) (long old (page_block old (page_of j)) (map_long j)) ((j - 2) % 32)
            (ap (λ (v : ℕ). bit_at v ((j - 2) % 32)) (ap₂ (long new) at same)
            ∙ put.others ((j - 2) % 32) (omega arith) other_bit
            ∙ ap (λ (v : ℕ). bit_at v ((j - 2) % 32)) (sym (ap₂ (long old) at same)))
        | inr other ↦ ap (λ (v : ℕ). mark v ((j - 2) % 32)) (kept (inr other))
      ]
      | inr other ↦ ap (λ (v : ℕ). mark v ((j - 2) % 32)) (kept (inl (λ e. other (lawful.apart (page_of j) (page_of k) in_page k_page e))))
    ]

-- the bit of a block written into its long, and the checksum made anew
pub marked_by : (old new : List ℕ) (k : ℕ) (free : Bool) → LawfulPages old → block_count old ≤ 101602 → IsInside (block_count old) k → SameBut (MapPlace old k) old new
    → IsBitPut (long old (page_block old (page_of k)) (map_long k)) ((k - 2) % 32) free (long new (page_block old (page_of k)) (map_long k))
    → block_sum new (page_block old (page_of k)) ≡ 0 → BitChanged old k free new
marked_by old new k free lawful size inside rest put sum =
    let b = page_block old (page_of k) in
    let k_page : page_of k < pages_of old = omega (arith, inside.0, inside.1) in
    let page : (p : ℕ) → p < PAGE_LONGS → page_block new p ≡ page_block old p = same_page (MapPlace old k) old new rest (λ i low high at. lawful.beside_root (page_of k) k_page (sym at.0)) in
    record {
      bit =
          marked-is new k
          ∙ ap (λ (c : ℕ). mark (long new c (map_long k)) ((k - 2) % 32)) (page (page_of k) (omega arith))
          ∙ mark-bit (long new b (map_long k)) ((k - 2) % 32) free put.bit;
      others = λ j has ne.
          let j_page : page_of j < PAGE_LONGS = omega (arith, has.0, has.1) in
          marked-is new j
          ∙ ap (λ (c : ℕ). mark (long new c (map_long j)) ((j - 2) % 32)) (page (page_of j) j_page)
          ∙ other_mark old new k free lawful size inside rest put j has ne
          ∙ sym (marked-is old j);
      sum = sum;
      rest = rest;
    }
