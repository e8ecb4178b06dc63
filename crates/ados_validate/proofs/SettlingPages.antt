-- The bitmap blocks settled one after another, then the root's flag and checksum.
use Rattle.ados_validate.proofs.Common.{◌≡◌, ℕ, ◌+◌, ◌<◌, inl, inr, List, sym, ap, ◌∙◌, arith, InPages, OnlyLong, SameBut, block_count, block_sum, long, root_key, cases_lt, other_long, same_count, same_long, same_sum, same_trans, same_weaken, LawfulPages, page_block, pages_of, root_of, HasValidBitmap, IsOfBitmap, HaveSums, IsRootMark, IsSettled}
use Rattle.ados_validate.proofs.PageRoles.{reached_of_page}

module _ (old mid : List ℕ) (pages : LawfulPages old) (same : SameBut (InPages old) old mid) where
  pub mid_count : block_count mid ≡ block_count old
  mid_count = same_count (InPages old) old mid same

  -- the root still names the same bitmap block
  pub named_page : (p : ℕ) → p < 25 → long mid (root_of old) (79 + p) ≡ page_block old p
  named_page p l = same_long (InPages old) old mid same (root_of old) (79 + p) (omega (arith, l)) (λ k e at. pages.beside_root at.0 at.1 (sym at.2))

  pub page_within : (p page : ℕ) → p < pages_of old → p < 25 → page ≡ long mid (root_of old) (79 + p) → page < block_count mid
  page_within p page l few e = let inside = pages.inside p l in omega (arith, inside.1, e, named_page p few, mid_count)

  pub settled_page : (new : List ℕ) (p page : ℕ) → p < pages_of old → p < 25 → page ≡ long mid (root_of old) (79 + p) → OnlyLong page 0 mid new → SameBut (InPages old) old new
  settled_page new p page l few e h =
      same_trans (InPages old) old mid new same
      (same_weaken _ (InPages old) mid new (λ b i at. (p, l, at.0 ∙ e ∙ named_page p few)) h)

  -- the checksums so far stay right, and that of one more block is
  pub sums_more : (new : List ℕ) (p page : ℕ) → p < pages_of old → p < 25 → page ≡ long mid (root_of old) (79 + p) → OnlyLong page 0 mid new → block_sum new page ≡ 0
      → HaveSums old mid p → HaveSums old new (p + 1)
  sums_more new p page l few e h sum sums q m = elim (cases_lt q p) [
    | inl before ↦
        same_sum _ mid new h (page_block old q) (λ k i at. (let same : q ≡ p = pages.apart q p (omega (arith, before, l)) l (at.0 ∙ e ∙ named_page p few) in omega (arith, same, before))) ∙ sums q before
    | inr behind ↦
        let here : q ≡ p = omega (arith, m, behind) in
        ap (block_sum new) (ap (page_block old) here ∙ sym (e ∙ named_page p few)) ∙ sum
  ]

  pub settled_by : (new : List ℕ) → HaveSums old mid (pages_of old) → SameBut (IsRootMark mid) mid new → ¬ HasValidBitmap new → block_sum new (root_of mid) ≡ 0 → IsSettled old new
  settled_by new sums rest not_valid root_sum = record {
    rest =
        same_trans (IsOfBitmap old) old mid new (same_weaken (InPages old) (IsOfBitmap old) old mid (λ b i h. inl (reached_of_page old pages b (h.0, h.1, sym h.2))) same)
        (same_weaken (IsRootMark mid) (IsOfBitmap old) mid new (λ b i h. inr (h.0 ∙ ap root_key mid_count, h.1)) rest);
    not_valid = not_valid;
    page_sums = λ p l. same_sum (IsRootMark mid) mid new rest (page_block old p) (λ k i at. pages.beside_root p l (at.0 ∙ ap root_key mid_count)) ∙ sums p l;
    root_sum = ap (λ (count : ℕ). block_sum new (root_key count)) (sym mid_count) ∙ root_sum;
  }

-- the root's flag, and then its checksum
module _ (old flagged new : List ℕ) (root : ℕ) (at : root ≡ root_of old) (first : OnlyLong root 78 old flagged) (second : OnlyLong root 5 flagged new) where
  pub root_rest : SameBut (IsRootMark old) old new
  root_rest =
      same_trans (IsRootMark old) old flagged new
      (same_weaken _ (IsRootMark old) old flagged (λ b i h. (h.0 ∙ at, inr h.1)) first)
      (same_weaken _ (IsRootMark old) flagged new (λ b i h. (h.0 ∙ at, inl h.1)) second)

  pub root_not_valid : long flagged root 78 ≡ 0 → ¬ HasValidBitmap new
  root_not_valid flag valid =
      let new_root : root_of new ≡ root = ap root_key (same_count (IsRootMark old) old new root_rest) ∙ sym at in
      let kept : long new root 78 ≡ long flagged root 78 = other_long root 5 flagged new second root 78 (omega arith) (inr (λ z. omega (arith, z))) in
      let there : long new root 78 ≡ long new (root_of new) 78 = ap (λ (b : ℕ). long new b 78) (sym new_root) in
      omega (arith, valid, there, kept, flag)
