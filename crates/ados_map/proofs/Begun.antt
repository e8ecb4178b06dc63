-- Bitmap blocks written one after the other.
use Rattle.ados_map.proofs.Common.{◌≡◌, ◌≢◌, ℕ, ◌+◌, ◌-◌, ◌*◌, ◌/◌, ◌%◌, ◌<◌, ◌≤◌, inl, inr, Bool, cond, List, arith, ap, sym, ◌∙◌, bit_at, cases_lt, BOOT_BLOCKS, MAP_LONGS, LONG_BITS, PAGE_BITS, PAGE_LONGS, long, block_count, block_sum, SameBut, InBlock, OnlyBlock, same_trans, same_weaken, other_block_long, other_block_sum, LawfulPages, page_block, pages_of, page_of, map_long, IsUnnamedBits, is_unnamed, InPages, PagesRebuilt}
use Rattle.ados_map.proofs.BitLemmas.{mark, marked-is, mark-bit}
use Rattle.ados_map.proofs.PageLemmas.{same_page}

-- the first p bitmap blocks are written, and nothing else changed
pub record IsBegun (old : List ℕ) (named : List Bool) (p : ℕ) (image : List ℕ) : Type 0 where
  pub longs : (q : ℕ) → q < p → (j : ℕ) → j < MAP_LONGS → IsUnnamedBits named (MAP_LONGS * q + j) (long image (page_block old q) (1 + j))
  pub sums : (q : ℕ) → q < p → block_sum image (page_block old q) ≡ 0
  pub rest : SameBut (InPages old) old image

-- the root names the bitmap blocks as before while only these are written
pub begun_page : (old : List ℕ) (named : List Bool) (p : ℕ) (image : List ℕ) → LawfulPages old → IsBegun old named p image → (q : ℕ) → q < PAGE_LONGS → page_block image q ≡ page_block old q
begun_page old named p image lawful h q lt = same_page (InPages old) old image h.rest (λ k low high at. lawful.beside_root at.0 at.1 (sym at.2)) q lt

-- one more bitmap block
pub begun_more : (old : List ℕ) (named : List Bool) (p page : ℕ) (image new : List ℕ) → LawfulPages old → p < pages_of old → page ≡ page_block old p → IsBegun old named p image
    → ((j : ℕ) → j < MAP_LONGS → IsUnnamedBits named (MAP_LONGS * p + j) (long new page (1 + j))) → block_sum new page ≡ 0 → OnlyBlock page image new → IsBegun old named (p + 1) new
begun_more old named p page image new lawful lt at h longs sum rest =
    let apart : (q : ℕ) → q < p → page_block old q ≢ page = λ q below e.
    let same : q ≡ p = lawful.apart q p (omega arith) lt (e ∙ at) in
    omega arith in
    record {
      longs = λ q below j j_lt i i_lt. elim (cases_lt q p) [
        | inl before ↦
            ap (λ (v : ℕ). bit_at v i) (other_block_long page image new rest (page_block old q) (1 + j) (apart q before) (omega arith))
            ∙ h.longs q before j j_lt i i_lt
        | inr here ↦
            let e : q ≡ p = omega arith in
            ap (λ (b : ℕ). bit_at (long new b (1 + j)) i) (ap (page_block old) e ∙ sym at)
            ∙ longs j j_lt i i_lt
            ∙ ap (λ (r : ℕ). cond (is_unnamed named (2 + 32 * (MAP_LONGS * r + j) + i)) 1 0) (sym e)
      ];
      sums = λ q below. elim (cases_lt q p) [
        | inl before ↦ other_block_sum page image new rest (page_block old q) (apart q before) ∙ h.sums q before
        | inr here ↦ let e : q ≡ p = omega arith in ap (block_sum new) (ap (page_block old) e ∙ sym at) ∙ sum
      ];
      rest = same_trans (InPages old) old image new h.rest (same_weaken (InBlock page) (InPages old) image new (λ c i e. (p, lt, e ∙ at)) rest);
    }

-- all bitmap blocks
pub begun_all : (old : List ℕ) (named : List Bool) (p : ℕ) (image : List ℕ) → LawfulPages old → block_count old ≤ 101602 → pages_of old ≤ p → IsBegun old named p image → PagesRebuilt old named image
begun_all old named p image lawful size all h = record {
  marks = λ k has.
      let q : page_of k < pages_of old = omega (arith, has.0, has.1) in
      let j : (k - BOOT_BLOCKS) % PAGE_BITS / LONG_BITS < MAP_LONGS = omega arith in
      let at : 2 + 32 * (MAP_LONGS * page_of k + (k - BOOT_BLOCKS) % PAGE_BITS / LONG_BITS) + (k - 2) % 32 ≡ k = omega (arith, has.0) in
      marked-is image k
      ∙ ap (λ (b : ℕ). mark (long image b (map_long k)) ((k - 2) % 32)) (begun_page old named p image lawful h (page_of k) (omega arith))
      ∙ mark-bit (long image (page_block old (page_of k)) (map_long k)) ((k - 2) % 32) (is_unnamed named k)
      (h.longs (page_of k) (omega arith) ((k - BOOT_BLOCKS) % PAGE_BITS / LONG_BITS) j ((k - 2) % 32) (omega arith)
      ∙ ap (λ (m : ℕ). cond (is_unnamed named m) 1 0) at);
  sums = λ q lt. h.sums q (omega arith);
  rest = h.rest;
}
