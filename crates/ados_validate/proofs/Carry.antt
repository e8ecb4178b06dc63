-- Two images of which one shows only faults that a new bitmap mends, and that differ only in its bitmap, reach the same
-- blocks.
use Rattle.ados_validate.proofs.Common.{◌≡◌, ◌≢◌, ℕ, ◌≤◌, List, sym, ap, ◌∙◌, subst, arith, Page, HasSameLongs, IsPlaceLong, place_long, place_moves, block_count, long, root_key, SameBut, same_count, same_long, Role, Root, InImage, IsPlace, Reached, root_of, named, start, IsOfBitmap, ShowsOnlyMendable}
use Rattle.ados_validate.proofs.BesidePages.{beside}

module _ (a b : List ℕ) (few : block_count a ≤ 101602) (only : ShowsOnlyMendable a) (same : SameBut (IsOfBitmap a) a b) where
  pub count : block_count b ≡ block_count a
  count = same_count (IsOfBitmap a) a b same

  pub root_same : root_of b ≡ root_of a
  root_same = ap root_key count

  -- a reached block that is no bitmap block keeps its longs
  pub longs : {block : ℕ} {role : Role} → Reached a block role → role ≢ Page → HasSameLongs a b block
  longs {block} h n j l m f = same_long (IsOfBitmap a) a b same block j l (λ k e. beside a only h n k (λ z. m (sym e ∙ z)) (λ z. f (sym e ∙ z)))

  -- a place of a reached block is unchanged
  pub record PlaceKept (block i : ℕ) (role next : Role) : Type 0 where
    pub in_a : IsPlace a block role i next
    pub in_b : IsPlace b block role i next
    pub kept : long b block i ≡ long a block i

  place_b : {block i : ℕ} {role next : Role} → Reached a block role → IsPlace a block role i next → PlaceKept block i role next
  place_b {i = i} {role = role} h p =
      let at : IsPlaceLong role i = place_long few p in
      let kept = longs h at.no_page in
      record { in_a = p; in_b = place_moves a b count kept p; kept = kept i at.small at.no_sum at.no_flag }

  pub place_a : {block i : ℕ} {role next : Role} → Reached a block role → IsPlace b block role i next → PlaceKept block i role next
  place_a {i = i} {role = role} h p =
      let at : IsPlaceLong role i = place_long (omega (arith, few, count)) p in
      let kept = longs h at.no_page in
      record { in_a = place_moves b a (sym count) (λ j l n f. sym (kept j l n f)) p; in_b = p; kept = kept i at.small at.no_sum at.no_flag }

  pub inside_a : {block : ℕ} → InImage b block → InImage a block
  inside_a h = (h.0, omega (arith, h.1, count))

  pub reached_b : {block : ℕ} {role : Role} → Reached a block role → Reached b block role
  reached_b start = subst (λ (x : ℕ). Reached b x Root) root_same start
  reached_b (named {block = c} {i = i} {role = role} {next = next} h p inside) =
      let place = place_b h p in
      let inside_b : InImage b (long b c i) = (omega (arith, inside.0, place.kept), omega (arith, inside.1, place.kept, count)) in
      subst (λ (x : ℕ). Reached b x next) place.kept (named (reached_b h) place.in_b inside_b)

  pub reached_a : {block : ℕ} {role : Role} → Reached b block role → Reached a block role
  reached_a start = subst (λ (x : ℕ). Reached a x Root) (sym root_same) start
  reached_a (named {block = c} {i = i} {role = role} {next = next} h p inside) =
      let r = reached_a h in
      let place = place_a r p in
      subst (λ (x : ℕ). Reached a x next) (sym place.kept) (named r place.in_a (subst (InImage a) place.kept (inside_a inside)))
