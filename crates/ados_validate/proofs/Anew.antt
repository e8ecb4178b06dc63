-- The mended image is the old one with a new bitmap.
use Rattle.ados_validate.proofs.Common.{◌≡◌, ℕ, ◌+◌, ◌-◌, ◌/◌, ◌<◌, ◌≤◌, Bool, true, false, List, ap, ◌∙◌, arith, get_or_default, SameBut, block_count, block_sum, long, root_key, HasFreeBit, same_trans, same_weaken, LawfulPages, MarkedFree, Role, Accepts, HasNoLost, InImage, Reached, root_of, HasValidBitmap, IsOfBitmap, Rebuilt, Stands, Tree, root, reached_stands, root_is, ShowsOnlyMendable, IsValidated, without_lost}
use Rattle.ados_model.specs.declared.role.Role.TheVariants as roles
use Rattle.ados_model.proofs.NoFaults.{faults_have_no_tree}
use Rattle.ados_validate.proofs.Carry.{reached_a, reached_b}
use Rattle.ados_validate.proofs.PageFaults.{mendable_pages}
use Rattle.ados_validate.proofs.Stay.{same_tree}
use Rattle.ados_validate.proofs.Widened.{count, of_new, of_old, turned}

module _ (old settled new : List ℕ) (small : block_count old ≤ 101602) (only : ShowsOnlyMendable old) (changed : SameBut (IsOfBitmap old) old settled) (not_valid : ¬ HasValidBitmap settled) where
  pages : LawfulPages old
  pages = mendable_pages old only

  module _ (rebuilt : Rebuilt settled new) (u : Tree) (s : Stands new u) (none : HasNoLost u) where
    rest_settled : SameBut (IsOfBitmap old) settled new
    rest_settled = same_weaken (IsOfBitmap settled) (IsOfBitmap old) settled new (of_old old settled small pages changed) rebuilt.rest

    rest : SameBut (IsOfBitmap old) old new
    rest = same_trans (IsOfBitmap old) old settled new changed rest_settled

    -- the same from the new image
    to_old : SameBut (IsOfBitmap new) new old
    to_old = same_weaken (IsOfBitmap old) (IsOfBitmap new) new old (of_new old new small pages rest) (turned (IsOfBitmap old) old new rest)

    settled_count : block_count settled ≡ block_count old
    settled_count = count old settled small pages changed

    new_count : block_count new ≡ block_count old
    new_count = count old new small pages rest

    in_settled : (block : ℕ) → InImage old block → InImage settled block
    in_settled block h = (h.0, omega (arith, h.1, settled_count))

    -- the same blocks are reached before and after the checksums are settled
    reached_settled : {block : ℕ} {role : Role} → Reached old block role → Reached settled block role
    reached_settled h = reached_b old settled small only changed h

    reached_old : {block : ℕ} {role : Role} → Reached settled block role → Reached old block role
    reached_old h = reached_a old settled small only changed h

    free : (block : ℕ) → InImage old block → HasFreeBit new block → (role : Role) → ¬ Reached old block role
    free block inside bit role h = rebuilt.free block (in_settled block inside) bit role (reached_settled h)

    in_use : (block : ℕ) → InImage old block → ¬ HasFreeBit new block → (role : Role) × Reached old block role
    in_use block inside bit = let at = rebuilt.in_use block (in_settled block inside) bit in (at.0, reached_old at.1)

    -- ---- where the old image represents a tree

    module _ (t : Tree) (r : Stands old t) where
      valid_old : HasValidBitmap old
      valid_old = ap (λ (b : ℕ). long old b 78) (root_is old t r) ∙ r.root_fields.valid

      root_sum : block_sum old (root_of new) ≡ 0
      root_sum =
          let same : root_of new ≡ root t = ap root_key new_count ∙ root_is old t r in
          let m = r.proper.root_node in
          ap (block_sum old) same ∙ (r.nodes (root t) m.0 m.1).sum

      page_sums : (page : ℕ) → Reached new page roles.Page → block_sum old page ≡ 0
      page_sums page h =
          let at = reached_stands old t r (reached_a old new small only rest h) in
          r.pages page (at.0, at.1.within, get_or_default r.layout.pages at.0 page 0 at.1.within ∙ at.1.here)

      used : (block : ℕ) → InImage new block → ¬ HasFreeBit new block → ¬ HasFreeBit old block
      used block inside bit was =
          let here : InImage old block = (inside.0, omega (arith, inside.1, new_count)) in
          let at = in_use block here bit in
          let within : (block - 2) / 4064 < (block_count old - 2 + 4063) / 4064 = omega (arith, here.0, here.1) in
          faults_have_no_tree old t MarkedFree block (record { valid = valid_old; role = at.0; reached = at.1; page = pages.inside ((block - 2) / 4064) within; free = was }) r

      tree_stays : Stands new (without_lost t)
      tree_stays = same_tree new old u s to_old valid_old root_sum page_sums used none t r

    validated : IsValidated old new
    validated = record {
      mendable = only;
      rest = rest;
      free = free;
      in_use = in_use;
      no_fault = λ kind block shows. faults_have_no_tree new u kind block shows s;
      valid = rebuilt.is_valid;
      tree = (u, s, none);
      same_tree = tree_stays;
    }

  pub anew : (rebuilt : Bool) → Accepts settled rebuilt new → IsValidated old new
  anew false h = absurd (not_valid h.1)
  anew true (clean, rebuilt, (u, s, none)) = validated rebuilt u s none
