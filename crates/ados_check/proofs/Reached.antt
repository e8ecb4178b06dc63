-- The blocks of a marked file are reached, inside the image and sound.
use Rattle.ados_check.proofs.Common.{◌≡◌, ◌≢◌, ℕ, zero, suc, ◌-◌, ◌<◌, ◌≤◌, List, ◌∷◌, length, slice_index, Option, Some, refl, sym, ap, ◌∙◌, subst, arith, get_or_past, IsImage, block_count, long, Chained, pointer, NEXT_EXTENSION, pointer_block, next_of, Role, InImage, IsPlace, IsPointer, Reached, header_pointer, first_extension, extension_pointer, further_extension, Mark, mark_at, AreReached, IsSound, IsSoundEntry, IsReachedFile, Data, Extension, mark_of}
use Rattle.ados_check.proofs.Paths.{IsPath, follow, follow-path, follow-chained, holder_along, long_along, AreMarkedAlong, marked_along, once_along}
use Rattle.ados_check.proofs.Counting.{AreDifferent}
use Rattle.ados_check.proofs.Roles.{IsMarkedFile, marked_inside}

-- the extension blocks of a file, along their links
unfoldable extensions_of : List ℕ → ℕ → List ℕ
extensions_of image file = follow (suc (block_count image)) image NEXT_EXTENSION (long image file NEXT_EXTENSION)

module _ (image : List ℕ) (marks : List (Option Mark)) (im : IsImage image) (c : AreReached image marks) (file : ℕ) (f : IsMarkedFile image marks file) where
  pub along : AreMarkedAlong image marks (Extension file) NEXT_EXTENSION (long image file NEXT_EXTENSION) file NEXT_EXTENSION
  along = record {
    begins = λ n. c.marked file NEXT_EXTENSION f.mark (Extension file) f.marked (subst (λ (x : Role). IsPlace image file x NEXT_EXTENSION (Extension file)) (sym f.role) (first_extension f.secondary n));
    goes_on = λ b h at e n. c.marked b NEXT_EXTENSION (mark_of (Extension file) h at) (Extension file) e (further_extension n);
    apart = λ h at e z.
        let same : f.mark ≡ mark_of (Extension file) h at = cc (e, f.marked) in
        let role : f.mark.role ≡ Extension file = ap (λ (m : Mark). m.role) same in
        let entry = f.role in
        cc (role, entry);
  }

  path : IsPath image NEXT_EXTENSION (long image file NEXT_EXTENSION) (extensions_of image file)
  unfolding extensions_of
  path = follow-path (suc (block_count image)) image NEXT_EXTENSION (long image file NEXT_EXTENSION)

  chain : Chained image NEXT_EXTENSION (long image file NEXT_EXTENSION) (extensions_of image file)
  unfolding extensions_of
  chain = follow-chained image marks (Extension file) NEXT_EXTENSION (long image file NEXT_EXTENSION) file NEXT_EXTENSION along (block_count image) (λ b m e. (marked_inside image marks c im b m e).1)

  extension_marked : (k : ℕ) → k < length (extensions_of image file) → mark_at marks (slice_index (extensions_of image file) k) ≡ Some (mark_of (Extension file) (holder_along file (extensions_of image file) k) (long_along NEXT_EXTENSION NEXT_EXTENSION k))
  extension_marked = marked_along image marks (Extension file) NEXT_EXTENSION (long image file NEXT_EXTENSION) file NEXT_EXTENSION along (extensions_of image file) path

  extension_once : AreDifferent (extensions_of image file)
  extension_once = once_along image marks (Extension file) NEXT_EXTENSION (long image file NEXT_EXTENSION) file NEXT_EXTENSION along (extensions_of image file) path

  -- ---- by places

  header_is : (q : ℕ) → q ≤ length (extensions_of image file) → pointer_block image file q ≡ slice_index (file ∷ extensions_of image file) q
  header_is zero l = refl
  header_is (suc q) l = ap (λ (b : ℕ). long image b NEXT_EXTENSION) (header_is q (omega arith)) ∙ next_of image NEXT_EXTENSION file (file ∷ extensions_of image file) (refl, chain) q (omega arith)

  ends_there : pointer_block image file (suc (length (extensions_of image file))) ≡ 0
  ends_there =
      ap (λ (b : ℕ). long image b NEXT_EXTENSION) (header_is (length (extensions_of image file)) (omega arith))
      ∙ next_of image NEXT_EXTENSION file (file ∷ extensions_of image file) (refl, chain) (length (extensions_of image file)) (omega arith)
      ∙ get_or_past (extensions_of image file) (length (extensions_of image file)) 0 (omega arith)

  -- the mark of an extension block, by its position
  marked_at : (q : ℕ) → q < length (extensions_of image file) → (h : ℕ) × (l : ℕ) × (mark_at marks (pointer_block image file (suc q)) ≡ Some (mark_of (Extension file) h l))
  marked_at q l = (holder_along file (extensions_of image file) q, long_along NEXT_EXTENSION NEXT_EXTENSION q, ap (mark_at marks) (header_is (suc q) (omega arith)) ∙ extension_marked q l)

  inside_at : (q : ℕ) → q ≤ length (extensions_of image file) → InImage image (pointer_block image file q)
  inside_at zero l = marked_inside image marks c im file f.mark f.marked
  inside_at (suc q) l = let m = marked_at q (omega arith) in marked_inside image marks c im (pointer_block image file (suc q)) (mark_of (Extension file) m.0 m.1) m.2

  not_file : (q : ℕ) → q < length (extensions_of image file) → file ≢ pointer_block image file (suc q)
  not_file q l e =
      let m = marked_at q l in
      along.apart m.0 m.1 (ap (mark_at marks) e ∙ m.2) refl

  once_at : (p q : ℕ) → p < q → q ≤ length (extensions_of image file) → pointer_block image file p ≢ pointer_block image file q
  once_at zero (suc q) l m e = not_file q (omega arith) e
  once_at (suc p) (suc q) l m e =
      let same = extension_once p q (omega arith) (omega arith) (sym (header_is (suc p) (omega arith)) ∙ e ∙ header_is (suc q) (omega arith)) in
      omega (arith, same, l)
  once_at _ _ l m e = omega arith

  -- a pointer of a header or extension block is a place
  pointer_place : (q : ℕ) → q ≤ length (extensions_of image file)
      → (m : Mark) × (mark_at marks (pointer_block image file q) ≡ Some m) × ((p : ℕ) → IsPointer image (pointer_block image file q) p → IsPlace image (pointer_block image file q) m.role (77 - p) (Data file))
  pointer_place zero l = (f.mark, f.marked, λ p h. subst (λ (x : Role). IsPlace image file x (77 - p) (Data file)) (sym f.role) (header_pointer f.secondary h))
  pointer_place (suc q) l =
      let m = marked_at q (omega arith) in
      (mark_of (Extension file) m.0 m.1, m.2, λ p h. extension_pointer h)

  entry : IsSoundEntry image file f.dir f.slot_of_chain
  entry = subst (IsSound image file) f.role (c.sound file f.mark f.marked)

  pub reached_file : IsReachedFile image file
  reached_file = record {
    is_file = record {
      dir = f.dir;
      slot_of_chain = f.slot_of_chain;
      reached = subst (Reached image file) f.role (c.reached file f.mark f.marked);
      secondary = f.secondary;
    };
    primary = entry.primary;
    sum = entry.sum;
    extensions = length (extensions_of image file);
    ends = ends_there;
    inside = inside_at;
    once = once_at;
    reached = λ q l. let m = marked_at q l in c.reached (pointer_block image file (suc q)) (mark_of (Extension file) m.0 m.1) m.2;
    fields = λ q l. let m = marked_at q l in c.sound (pointer_block image file (suc q)) (mark_of (Extension file) m.0 m.1) m.2;
    data_inside = λ q i l h. let from = pointer_place q l in c.inside (pointer_block image file q) (77 - i) from.0 (Data file) from.1 (from.2 i h);
    data_fields = λ ofs q i l h.
        let from = pointer_place q l in
        c.sound (pointer image (pointer_block image file q) i) (mark_of (Data file) (pointer_block image file q) (77 - i))
        (c.marked (pointer_block image file q) (77 - i) from.0 (Data file) from.1 (from.2 i h)) ofs;
  }
