-- Two images that differ only in their bitmaps have the same marks.
use Rattle.ados_check.proofs.Common.{◌≡◌, ◌≢◌, ℕ, ◌<◌, ◌≤◌, inl, inr, List, [], ◌∷◌, Option, Some, refl, sym, ap, ◌∙◌, subst, arith, Format, IsImage, text_at, block_count, long, block_sum, COMMENT_BYTE, NAME_BYTE, SameBut, Same, slot, format_byte, Role, Root, Page, Entry, Data, Extension, InImage, IsPlace, Reached, root_of, start, named, IsOfBitmap, Mark, mark_at, AreReached, IsChecked, IsMarkedEntry, IsSound, IsSoundRoot, IsSoundEntry, IsSoundData}
use Rattle.ados_check.proofs.Roles.{reached_marked, root_role}
use Rattle.ados_check.proofs.Untouched.{place_moves, IsPlaceLong, place_long, count_same, root_same, IsUntouched, boot_untouched, untouched, long_kept, byte_kept, bytes_kept, sum_kept, root_longs, format_same, longs_kept, name_same, name_valid, root_name_valid, extension_kept}
use Rattle.ados_check.proofs.FilesKept.{sound_file_kept}

module _ (old new : List ℕ) (marks : List (Option Mark)) (im : IsImage old) (c : IsChecked old marks) (same : SameBut (IsOfBitmap old) old new)
    (root_sum : block_sum new (root_of old) ≡ 0) (page_sums : (page : ℕ) → Reached old page Page → block_sum new page ≡ 0) where
  abbrev Free : ℕ → Type 0
  Free block = IsUntouched old new marks im c.reached same block

  few : block_count old ≤ 101602
  few = omega (arith, im.whole, im.size.1)

  count : block_count new ≡ block_count old
  count = count_same old new marks im c.reached same

  inside_new : (block : ℕ) → InImage old block → InImage new block
  inside_new block h = (h.0, omega (arith, h.1, count))

  -- the long of a place of a marked block
  place_kept : {block i : ℕ} {next : Role} (m : Mark) → mark_at marks block ≡ Some m → IsPlace old block m.role i next → long new block i ≡ long old block i
  place_kept {block = block} {i = i} m e p =
      let at : IsPlaceLong m.role i = place_long few p in
      longs_kept old new marks im c.reached same block m e at.no_page i at.small at.no_sum at.no_flag

  place_new : {block i : ℕ} {next : Role} (m : Mark) → mark_at marks block ≡ Some m → IsPlace old block m.role i next → IsPlace new block m.role i next
  place_new {block = block} {i = i} m e p =
      let at : IsPlaceLong m.role i = place_long few p in
      place_moves old new count (longs_kept old new marks im c.reached same block m e at.no_page) p

  place_old : {block i : ℕ} {next : Role} (m : Mark) → mark_at marks block ≡ Some m → IsPlace new block m.role i next → IsPlace old block m.role i next
  place_old {block = block} {i = i} m e p =
      let at : IsPlaceLong m.role i = place_long (omega (arith, few, count)) p in
      place_moves new old (sym count) (λ j l n g. sym (longs_kept old new marks im c.reached same block m e at.no_page j l n g)) p

  -- a reached block is reached in the other image
  reached_new : {block : ℕ} {role : Role} → Reached old block role → Reached new block role
  reached_new start = subst (λ (b : ℕ). Reached new b Root) (root_same old new marks im c.reached same) start
  reached_new (named {block = b} {i = i} {role = role} {next = next} h p inside) =
      let at = reached_marked old marks c.reached h in
      let place = subst (λ (x : Role). IsPlace old b x i next) (sym at.2) p in
      let kept = place_kept at.0 at.1 place in
      let place' = subst (λ (x : Role). IsPlace new b x i next) at.2 (place_new at.0 at.1 place) in
      let inside' = subst (InImage new) (sym kept) (inside_new _ inside) in
      subst (λ (x : ℕ). Reached new x next) kept (named (reached_new h) place' inside')

  -- ---- the fields of each block

  kept : (block j : ℕ) → Free block → j < 128 → long new block j ≡ long old block j
  kept = long_kept old new marks im c.reached same

  root_kept : (j : ℕ) → j < 128 → j ≢ 5 → j ≢ 78 → long new (root_of old) j ≡ long old (root_of old) j
  root_kept = root_longs old new marks im c.reached same

  sound_root : (block : ℕ) → block ≡ root_of old → IsSoundRoot old block → IsSoundRoot new block
  sound_root block e h = subst (IsSoundRoot new) (sym e) (go (subst (IsSoundRoot old) e h))
    where
      go : IsSoundRoot old (root_of old) → IsSoundRoot new (root_of old)
      go s = record {
        primary = root_kept 0 (omega arith) (omega arith) (omega arith) ∙ s.primary;
        table_size = root_kept 3 (omega arith) (omega arith) (omega arith) ∙ s.table_size;
        secondary = root_kept 127 (omega arith) (omega arith) (omega arith) ∙ s.secondary;
        parent = root_kept 125 (omega arith) (omega arith) (omega arith) ∙ s.parent;
        sum = root_sum;
        name = root_name_valid old new marks im c.reached same s.name;
      }

  sound_entry : (block dir s : ℕ) → Free block → IsSoundEntry old block dir s → IsSoundEntry new block dir s
  sound_entry block dir s free h =
      let type_kept = kept block 127 free (omega arith) in
      record {
        primary = kept block 0 free (omega arith) ∙ h.primary;
        secondary = elim h.secondary [ inl e ↦ inl (type_kept ∙ e) | inr e ↦ inr (type_kept ∙ e) ];
        key_field = kept block 1 free (omega arith) ∙ h.key_field;
        parent = kept block 125 free (omega arith) ∙ h.parent;
        sum = sum_kept old new marks im c.reached same block free ∙ h.sum;
        name = name_valid old new marks im c.reached same block free h.name;
        slotted = ap slot (name_same old new marks im c.reached same block free h.name) ∙ h.slotted;
        comment = omega (arith, byte_kept old new marks im c.reached same block COMMENT_BYTE free (omega arith), h.comment);
      }

  sound_data : (block file : ℕ) → Free block → IsSoundData old block file → IsSoundData new block file
  sound_data block file free h = record {
    primary = kept block 0 free (omega arith) ∙ h.primary;
    header = kept block 1 free (omega arith) ∙ h.header;
    sum = sum_kept old new marks im c.reached same block free ∙ h.sum;
  }

  sound_new : (block : ℕ) (m : Mark) → mark_at marks block ≡ Some m → IsSound new block m.role
  sound_new block m e = go m.role refl (c.reached.sound block m e)
    where
      free : m.role ≢ Root → m.role ≢ Page → Free block
      free no_root no_page = untouched old new marks im c.reached same block m e no_root no_page

      go : (role : Role) → m.role ≡ role → IsSound old block role → IsSound new block role
      go Root is h = sound_root block (root_role old marks c.reached block m e is) h
      go Page is h = page_sums block (subst (Reached old block) is (c.reached.reached block m e))
      go (Entry dir s) is h = sound_entry block dir s (free (λ z. cc (is, z)) (λ z. cc (is, z))) h
      go (Data file) is h = λ ofs. sound_data block file (free (λ z. cc (is, z)) (λ z. cc (is, z))) (h (sym (byte_kept old new marks im c.reached same 0 3 (boot_untouched old new marks im c.reached same) (omega arith)) ∙ ofs))
      go (Extension file) is h = extension_kept old new marks im c.reached same block file (free (λ z. cc (is, z)) (λ z. cc (is, z))) h

  -- ---- the marks

  are_reached : AreReached new marks
  are_reached = record {
    size = c.reached.size ∙ sym count;
    root = ap (mark_at marks) (root_same old new marks im c.reached same) ∙ c.reached.root;
    reached = λ block m e. reached_new (c.reached.reached block m e);
    inside = λ block i m next e p.
        let q = place_old m e p in
        subst (InImage new) (sym (place_kept m e q)) (inside_new _ (c.reached.inside block i m next e q));
    marked = λ block i m next e p.
        let q = place_old m e p in
        ap (mark_at marks) (place_kept m e q) ∙ c.reached.marked block i m next e q;
    sound = sound_new;
  }

  entry_free : (block dir : ℕ) → IsMarkedEntry marks block dir → Free block
  entry_free block dir h = let is = h.3 in untouched old new marks im c.reached same block h.0 h.2 (λ z. cc (is, z)) (λ z. cc (is, z))

  entry_name : (block dir : ℕ) → IsMarkedEntry marks block dir → text_at new block NAME_BYTE ≡ text_at old block NAME_BYTE
  entry_name block dir h =
      let sound : IsSoundEntry old block dir h.1 = subst (IsSound old block) h.3 (c.reached.sound block h.0 h.2) in
      name_same old new marks im c.reached same block (entry_free block dir h) sound.name

  pub is_checked : IsChecked new marks
  is_checked = record {
    boot = bytes_kept old new marks im c.reached same 0 0 4 (boot_untouched old new marks im c.reached same) (omega arith)
        ∙ c.boot ∙ ap (λ (g : Format). 68 ∷ 79 ∷ 83 ∷ format_byte g ∷ []) (sym (format_same old new marks im c.reached same));
    reached = are_reached;
    files = λ file dir h sec. sound_file_kept old new marks im c same file
        (record { mark = h.0; dir = dir; slot_of_chain = h.1; marked = h.2; role = h.3; secondary = sym (kept file 127 (entry_free file dir h) (omega arith)) ∙ sec });
    unlike = λ block other dir h g alike. c.unlike block other dir h g
        (subst (λ (name : List ℕ). Same name (text_at old other NAME_BYTE)) (entry_name block dir h)
        (subst (λ (name : List ℕ). Same (text_at new block NAME_BYTE) name) (entry_name other dir g) alike));
  }
