-- Two images that differ only in the bitmap of one have the same bitmap blocks.
use Rattle.ados_validate.proofs.Common.{◌≡◌, ℕ, ◌+◌, ◌/◌, ◌<◌, ◌≤◌, inl, inr, List, refl, sym, ap, ◌∙◌, arith, SameBut, block_count, long, root_key, same_count, same_long, LawfulPages, page_block, pages_of, root_of, IsOfBitmap, count_same, ValidatedHasPages}
use Rattle.ados_validate.proofs.PageFaults.{mendable_pages}
use Rattle.ados_validate.proofs.PageRoles.{page_of_reached, reached_of_page}

-- the same change the other way
pub turned : (changed : ℕ → ℕ → Type 0) (old new : List ℕ) → SameBut changed old new → SameBut changed new old
turned changed old new h = record {
  same_length = sym h.same_length;
  same_byte = λ b i l un. sym (h.same_byte b i l un);
}

module _ (old new : List ℕ) (small : block_count old ≤ 101602) (pages : LawfulPages old) (same : SameBut (IsOfBitmap old) old new) where
  pub count : block_count new ≡ block_count old
  count = same_count (IsOfBitmap old) old new same

  root_same : root_of new ≡ root_of old
  root_same = ap root_key count

  few : (p : ℕ) → p < pages_of old → p < 25
  few p l = omega (arith, l, small)

  pointer_kept : (p k : ℕ) → p < pages_of old → k / 4 ≡ 79 + p → ¬ IsOfBitmap old (root_of old) k
  pointer_kept p k l e (inl h) = let at = page_of_reached h refl in pages.beside_root at.0 at.1 at.2
  pointer_kept p k l e (inr (r, inl z)) = omega (arith, e, z)
  pointer_kept p k l e (inr (r, inr z)) = omega (arith, e, z)

  pub page_same : (p : ℕ) → p < pages_of old → page_block new p ≡ page_block old p
  page_same p l =
      let small = few p l in
      ap (λ (b : ℕ). long new b (79 + p)) root_same
      ∙ same_long (IsOfBitmap old) old new same (root_of old) (79 + p) (omega (arith, small)) (λ k e. pointer_kept p k l e)

  was_page : (p : ℕ) → p < pages_of new → p < pages_of old
  was_page p l = omega (arith, l, count)

  pub pages_new : LawfulPages new
  pages_new = record {
    inside = λ p l.
        let there = pages.inside p (was_page p l) in
        let is = page_same p (was_page p l) in
        (omega (arith, there.0, is), omega (arith, there.1, is, count));
    apart = λ p q l m e. pages.apart p q (was_page p l) (was_page q m) (sym (page_same p (was_page p l)) ∙ e ∙ page_same q (was_page q m));
    beside_root = λ p l e. pages.beside_root p (was_page p l) (sym (page_same p (was_page p l)) ∙ e ∙ root_same);
  }

  pub of_old : (b i : ℕ) → IsOfBitmap new b i → IsOfBitmap old b i
  of_old b i (inl h) =
      let at = page_of_reached h refl in
      let l = was_page at.0 at.1 in
      inl (reached_of_page old pages b (at.0, l, sym (page_same at.0 l) ∙ at.2))
  of_old b i (inr h) = inr (h.0 ∙ root_same, h.1)

  pub of_new : (b i : ℕ) → IsOfBitmap old b i → IsOfBitmap new b i
  of_new b i (inl h) =
      let at = page_of_reached h refl in
      inl (reached_of_page new pages_new b (at.0, omega (arith, at.1, count), page_same at.0 at.1 ∙ at.2))
  of_new b i (inr h) = inr (h.0 ∙ sym root_same, h.1)

pub validated_has_pages : ValidatedHasPages
validated_has_pages old new v =
    let pages = mendable_pages old v.mendable in
    let stands = v.tree.1 in
    let small : block_count old ≤ 101602 = omega (arith, count_same new v.tree.0 stands, stands.proper.size.1, same_count (IsOfBitmap old) old new v.rest) in
    (pages_new old new small pages v.rest, count old new small pages v.rest, page_same old new small pages v.rest)
