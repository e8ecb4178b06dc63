-- The kept longs of the bitmap blocks.
use Rattle.ados_validate.proofs.Common.{◌≡◌, ℕ, ◌+◌, ◌*◌, ◌/◌, ◌%◌, ◌<◌, List, [], ◌∷◌, ◌++◌, length, map, slice_index_or, sym, ap, ap₂, ◌∙◌, arith, range_with_len, long, page_block, pages_of, AreKeptLongs, page_long}
use Rattle.std.proofs.lemmas.List.FromFn.{get_or-map-range_with_len, length-map-range_with_len, map-range_with_len_more}

module _ (image longs : List ℕ) (kept : AreKeptLongs image longs) where
  pub kept_length : length longs ≡ 128 * pages_of image
  kept_length = ap length kept.all ∙ length-map-range_with_len (page_long image) 0 (128 * pages_of image)

  pub within_kept : (p i : ℕ) → p < pages_of image → i < 128 → 128 * p + i < length longs
  within_kept p i l m = omega (arith, l, m, kept_length)

  -- what is kept of long i of bitmap block p
  pub kept_long : (p i : ℕ) → p < pages_of image → i < 128 → (v : ℕ) → v ≡ slice_index_or longs (128 * p + i) v → v ≡ long image (page_block image p) i
  kept_long p i l m v e =
      let at : (128 * p + i) / 128 ≡ p = omega (arith, m) in
      let place : (128 * p + i) % 128 ≡ i = omega (arith, m) in
      e
      ∙ ap (λ (xs : List ℕ). slice_index_or xs (128 * p + i) v) kept.all
      ∙ get_or-map-range_with_len (page_long image) 0 (128 * pages_of image) (128 * p + i) (128 * p + i) v (omega (arith, l, m)) (omega arith)
      ∙ ap₂ (λ (q j : ℕ). long image (page_block image q) j) at place

-- one more long is kept
pub kept_more : (image longs more : List ℕ) (k page v : ℕ) → longs ≡ map (page_long image) (range_with_len 0 k) → more ≡ longs ++ v ∷ []
    → page ≡ page_block image (k / 128) → v ≡ long image page (k % 128) → more ≡ map (page_long image) (range_with_len 0 (k + 1))
kept_more image longs more k page v kept pushed at is =
    let here : v ≡ page_long image k = is ∙ ap (λ (block : ℕ). long image block (k % 128)) at in
    pushed ∙ ap₂ (λ (xs : List ℕ) (x : ℕ). xs ++ x ∷ []) kept here ∙ sym (map-range_with_len_more (page_long image) 0 k k (omega arith))
