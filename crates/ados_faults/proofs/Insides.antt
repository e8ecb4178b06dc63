-- Reached blocks are inside the image; the blocks that places name are reached.
use Rattle.ados_faults.proofs.Common.{◌≡◌, ℕ, ◌<◌, List, sym, subst, arith, IsImage, block_count, long, Role, InImage, IsPlace, Reached, root_of, start, named}
use Rattle.ados_model.specs.Faults

module _ (image : List ℕ) (im : IsImage image) where
  pub root_inside : InImage image (root_of image)
  root_inside = (omega (arith, im.whole, im.size.0), omega (arith, im.whole, im.size.0))

  pub reached_inside : {block : ℕ} {role : Role} → Reached image block role → InImage image block
  reached_inside start = root_inside
  reached_inside (named h p inside) = inside

  within : {block : ℕ} {role : Role} → Reached image block role → block < block_count image
  within h = (reached_inside h).1

  pointer_within : (block : ℕ) → Faults.HasBadPointer image block → block < block_count image
  pointer_within block (Faults.HasBadPointer.outside h p n) = within h
  pointer_within block (Faults.HasBadPointer.first_data o h n) = within h.reached
  pointer_within block (Faults.HasBadPointer.further_data o h n) = h.inside.1

-- the block that a place names, by the bytes of a source
pub named_at : (image bytes : List ℕ) (block i target : ℕ) (role next : Role) → Reached image block role → bytes ≡ image → IsPlace bytes block role i next → target ≡ long image block i → InImage image target → Reached image target next
named_at image bytes block i target role next h same place is inside =
    subst (λ (b : ℕ). Reached image b next) (sym is) (named h (subst (λ (xs : List ℕ). IsPlace xs block role i next) same place) (subst (InImage image) is inside))
