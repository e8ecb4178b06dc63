-- The marks of the reached blocks.
use Rattle.ados_check.proofs.Common.{◌≡◌, ◌≢◌, ℕ, List, Option, Some, refl, sym, ap, ◌∙◌, subst, arith, IsImage, block_count, secondary_type, Role, Root, Entry, FILE_TYPE, InImage, IsPlace, Reached, root_of, root_page, start, named, Mark, mark_at, AreReached, mark_of}

-- no place names the root
pub place_not_root : {image : List ℕ} {block i : ℕ} {role next : Role} → IsPlace image block role i next → next ≢ Root
place_not_root (root_page l) z = cc z
place_not_root _ z = cc z

-- only the root has the role of the root
pub only_root : {image : List ℕ} {block : ℕ} {role : Role} → Reached image block role → role ≡ Root → block ≡ root_of image
only_root start e = refl
only_root (named h p inside) e = absurd (place_not_root p e)

-- a block marked as an entry that is a directory
pub data IsMarkedDirectory (image : List ℕ) (marks : List (Option Mark)) (dir : ℕ) : Type 0 where
  as_root : dir ≡ root_of image → IsMarkedDirectory image marks dir
  as_entry : (m : Mark) (up r : ℕ) → mark_at marks dir ≡ Some m → m.role ≡ Entry up r → secondary_type image dir ≡ 2 → IsMarkedDirectory image marks dir

-- a block marked as an entry that is a file
pub record IsMarkedFile (image : List ℕ) (marks : List (Option Mark)) (file : ℕ) : Type 0 where
  pub mark : Mark
  pub dir : ℕ
  pub slot_of_chain : ℕ
  pub marked : mark_at marks file ≡ Some mark
  pub role : mark.role ≡ Entry dir slot_of_chain
  pub secondary : secondary_type image file ≡ FILE_TYPE

module _ (image : List ℕ) (marks : List (Option Mark)) (c : AreReached image marks) where
  -- a reached block is marked with its role
  pub reached_marked : {block : ℕ} {role : Role} → Reached image block role → (m : Mark) × (mark_at marks block ≡ Some m) × (m.role ≡ role)
  reached_marked start = (mark_of Root 0 0, c.root, refl)
  reached_marked (named {block = b} {i = i} {role = role} {next = next} h p inside) =
      let from = reached_marked h in
      let place = subst (λ (x : Role). IsPlace image b x i next) (sym from.2) p in
      (mark_of next b i, c.marked b i from.0 next from.1 place, refl)

  -- a block has one role
  pub one_role : (block : ℕ) (m : Mark) (role : Role) → mark_at marks block ≡ Some m → Reached image block role → m.role ≡ role
  one_role block m role e h =
      let at = reached_marked h in
      let same : m ≡ at.0 = cc (e, at.1) in
      ap (λ (x : Mark). x.role) same ∙ at.2

  pub reached_inside : {block : ℕ} {role : Role} → IsImage image → Reached image block role → InImage image block
  reached_inside im start = let count : block_count image ≡ im.blocks = omega (arith, im.whole) in (omega (arith, count, im.size.0), omega (arith, count, im.size.0))
  reached_inside im (named h p inside) = inside

  pub marked_inside : IsImage image → (block : ℕ) (m : Mark) → mark_at marks block ≡ Some m → InImage image block
  marked_inside im block m e = reached_inside im (c.reached block m e)

  -- only the root is marked as the root
  pub root_role : (block : ℕ) (m : Mark) → mark_at marks block ≡ Some m → m.role ≡ Root → block ≡ root_of image
  root_role block m e is = only_root (c.reached block m e) is
