-- A reached block that is marked free is a fault of the bitmap.
use Rattle.ados_check.proofs.Common.{◌≡◌, ℕ, ◌<◌, List, get_or, true, false, Option, Some, None, is_some, sym, ap, ◌∙◌, arith, false≢true, IsImage, HasFreeBit, LawfulPages, page_block, page_of, pages_of, InImage, IsReachedAndFree, HasValidBitmap, IsFree, Mark, mark_at, IsChecked}
use Rattle.ados_check.proofs.Roles.{marked_inside}
use Rattle.ados_check.proofs.MarkLemmas.{mark_got, some_is}

-- a cell with a mark
pub marked_by : (marks : List (Option Mark)) (block : ℕ) → is_some (get_or marks block None) ≡ true → (mark : Mark) × (mark_at marks block ≡ Some mark)
marked_by marks block e = let at = some_is (get_or marks block None) e in (at.0, mark_got marks block ∙ at.1)

-- a cell without a mark
pub unmarked_by : (marks : List (Option Mark)) (block : ℕ) (mark : Mark) → is_some (get_or marks block None) ≡ false → mark_at marks block ≡ Some mark → ⊥
unmarked_by marks block mark none e = false≢true (sym none ∙ ap is_some (sym (mark_got marks block) ∙ e))

module _ (image : List ℕ) (marks : List (Option Mark)) (im : IsImage image) (c : IsChecked image marks) where
  pub inside : (block : ℕ) (mark : Mark) → mark_at marks block ≡ Some mark → InImage image block
  inside block mark e = marked_inside image marks c.reached im block mark e

  -- no boot block is marked
  pub none_below : (block : ℕ) → block < 2 → (mark : Mark) → mark_at marks block ≡ Some mark → ¬ HasFreeBit image block
  none_below block l mark e free = let at = inside block mark e in absurd (omega (arith, l, at.0))

  -- the bitmap block with the bit of a marked block is inside the image
  page_inside : LawfulPages image → (block : ℕ) (mark : Mark) → mark_at marks block ≡ Some mark → InImage image (page_block image (page_of block))
  page_inside pages block mark e =
      let at = inside block mark e in
      let page : page_of block < pages_of image = omega (arith, at.0, at.1) in
      pages.inside (page_of block) page

  pub free_in : LawfulPages image → (block : ℕ) (mark : Mark) → mark_at marks block ≡ Some mark → HasFreeBit image block → IsFree image block
  free_in pages block mark e free = record { page = page_inside pages block mark e; free = free }

  pub marked_free : HasValidBitmap image → LawfulPages image → (block : ℕ) (mark : Mark) → mark_at marks block ≡ Some mark → HasFreeBit image block → IsReachedAndFree image block
  marked_free valid pages block mark e free = record {
    valid = valid;
    role = mark.role;
    reached = c.reached.reached block mark e;
    page = page_inside pages block mark e;
    free = free;
  }
