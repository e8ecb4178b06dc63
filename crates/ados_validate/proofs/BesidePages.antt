-- In an image that shows only faults which a new bitmap mends, no bitmap block is reached in another role, and so is not
-- the root.
use Rattle.ados_validate.proofs.Common.{◌≡◌, ◌≢◌, ℕ, ◌+◌, ◌/◌, inl, inr, List, refl, subst, arith, Page, of_root, cases_eq, long, BlockUsedTwice, Role, Root, IsPlace, IsUsedTwice, PlaceNames, Reached, root_of, root_page, root_named, two_holders, two_longs, named, start, IsOfBitmap, IsPage, ShowsOnlyMendable}
use Rattle.ados_check.proofs.PlaceLemmas.OfRoot.{of_page, of_slot}
use Rattle.ados_validate.proofs.PageFaults.{mendable_pages, not_shown}
use Rattle.ados_validate.proofs.PageRoles.{page_of_reached}

module _ (image : List ℕ) (only : ShowsOnlyMendable image) where
  once : (block : ℕ) → ¬ IsUsedTwice image block
  once block h = not_shown image only BlockUsedTwice block refl h

  root_role : {block : ℕ} {role : Role} → Reached image block role → block ≡ root_of image → role ≡ Root
  root_role start e = refl
  root_role (named {block = c} {i = i} {role = role} {next = next} h p inside) e =
      absurd (once (long image c i) (root_named e (record { role = role; next = next; reached = h; place = p; names = refl })))

  pub not_page : {block : ℕ} {role : Role} → Reached image block role → role ≢ Page → ¬ IsPage image block
  not_page start n at = (mendable_pages image only).beside_root at.0 at.1 at.2
  not_page (named {block = c} {i = i} {role = role} {next = next} h p inside) n at =
      let here : PlaceNames image c i (long image c i) = record { role = role; next = next; reached = h; place = p; names = refl } in
      let page : PlaceNames image (root_of image) (79 + at.0) (long image c i) = record { role = Root; next = Page; reached = start; place = root_page at.1; names = at.2 } in
      elim (cases_eq c (root_of image)) [
        | inr other ↦ once (long image c i) (two_holders inside (i, here) (79 + at.0, page) other)
        | inl same ↦ elim (cases_eq i (79 + at.0)) [
          | inr other ↦ once (long image c i) (two_longs inside (subst (λ (b : ℕ). PlaceNames image b i (long image c i)) same here) page other)
          | inl long_is ↦
              let of : IsPlace image c Root i next = subst (λ (r : Role). IsPlace image c r i next) (root_role h same) p in
              elim (of_root of) [ of_page from is ↦ n is | of_slot from to is ↦ omega (arith, to, long_is) ]
        ]
      ]

  -- of a block in another role only two longs belong to the bitmap, and none but of the root
  pub beside : {block : ℕ} {role : Role} → Reached image block role → role ≢ Page → (k : ℕ) → k / 4 ≢ 5 → k / 4 ≢ 78 → ¬ IsOfBitmap image block k
  beside h n k s f (inl page) = not_page h n (page_of_reached page refl)
  beside h n k s f (inr (e, inl z)) = s z
  beside h n k s f (inr (e, inr z)) = f z

  pub apart : {block : ℕ} {role : Role} → Reached image block role → role ≢ Page → role ≢ Root → (k : ℕ) → ¬ IsOfBitmap image block k
  apart h n r k (inl page) = not_page h n (page_of_reached page refl)
  apart h n r k (inr (e, _)) = r (root_role h e)
