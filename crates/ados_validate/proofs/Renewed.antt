-- The bitmap of a checked image is written from its marks, once its root says that it is not valid.
use Rattle.ados_validate.proofs.Common.{◌≡◌, ℕ, ◌≤◌, inr, true, List, Option, refl, ◌∙◌, subst, arith, Page, SameBut, block_count, block_sum, IsImage, same_sum, same_weaken, Reached, root_of, HasValidBitmap, IsOfBitmap, reached_marked, ShowsOnlyMendable, IsValidated, IsRootMark}
use Rattle.ados_check.specs.declared.mark.Mark.{Mark}
use Rattle.ados_check.specs.Laws.{IsMended}
use Rattle.ados_check.specs.Marks.{IsChecked, IsSound}
use Rattle.ados_check.proofs.Accepted.{lawful_pages, mended_is_accepted}
use Rattle.ados_check.proofs.Carried.{is_checked}
use Rattle.ados_validate.proofs.Anew.{anew}
use Rattle.ados_validate.proofs.PageRoles.{page_of_reached}

module _ (old mid : List ℕ) (marks : List (Option Mark)) (im : IsImage old) (checked : IsChecked old marks) (rest : SameBut (IsRootMark old) old mid) (sum : block_sum mid (root_of old) ≡ 0) where
  of_bitmap : SameBut (IsOfBitmap old) old mid
  of_bitmap = same_weaken (IsRootMark old) (IsOfBitmap old) old mid (λ b i h. inr h) rest

  page_sums : (page : ℕ) → Reached old page Page → block_sum mid page ≡ 0
  page_sums page h =
      let at = reached_marked old marks checked.reached h in
      let was : block_sum old page ≡ 0 = subst (IsSound old page) at.2 (checked.reached.sound page at.0 at.1) in
      let p = page_of_reached h refl in
      same_sum (IsRootMark old) old mid rest page (λ k l z. (lawful_pages old marks checked).beside_root p.0 p.1 (p.2 ∙ z.0)) ∙ was

  pub checked_mid : IsChecked mid marks
  checked_mid = is_checked old mid marks im checked of_bitmap sum page_sums

  pub renewed : (new : List ℕ) → ShowsOnlyMendable old → IsImage mid → IsImage new → ¬ HasValidBitmap mid → IsMended mid marks new → IsValidated old new
  renewed new only im_mid im_new not_valid mended =
      let small : block_count old ≤ 101602 = omega (arith, im.whole, im.size.1) in
      anew old mid new small only of_bitmap not_valid true (mended_is_accepted mid new marks im_mid im_new checked_mid not_valid mended)
