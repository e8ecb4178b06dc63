-- An image that shows only faults which a new bitmap mends shows none when its bitmap is settled: each fault of the
-- settled image but of the bitmap is one of the old image.
use Rattle.ados_validate.proofs.Common.{◌≡◌, ◌≢◌, ℕ, zero, suc, ◌+◌, ◌-◌, ◌<◌, ◌≤◌, ◌==◌, inl, inr, Bool, true, not, ◌&&◌, nat_lt, List, [], ◌∷◌, ◌++◌, length, flat_map, sum_by, slice_index, Contains, refl, sym, ap, ap₂, ◌∙◌, subst, arith, Data, Entry, Extension, Page, first_data, further_data, outside, HasSameLongs, and_parts, cases_lt, eqb-false, lt-leb, ltb-true, not-true, All-from_get_or, All-get_or, format_of, held_count, pointer_count, block_count, block_sum, byte_at, bytes_at, long, IsImage, text_at, COMMENT_BYTE, NAME_BYTE, NEXT_EXTENSION, same_bytes_at, same_sum, BadComment, BadCount, BadName, BadOwnKey, BadParent, BadPointer, BadSequence, BadSum, BadType, BlockUsedTwice, DuplicateName, LinkEntry, MarkedFree, NoMemory, NotADosDisk, UnsupportedKind, WrongChain, Role, Root, ShowsNoFault, AreDataBlocks, HasBadComment, HasBadCount, HasBadName, HasBadOwnKey, HasBadParent, HasBadPointer, HasBadSequence, HasBadSum, HasBadType, HasDuplicateName, HasName, HasPointers, HasShortName, HasSum, HoldsOtherSize, InImage, IsContinued, IsDataAt, IsDirectory, IsEntry, IsFile, IsInWrongChain, IsInnerData, IsLinkType, IsOfs, IsPlace, IsUsedTwice, LinkedOnce, PlaceNames, Reached, first_pointers, last_link, pointers_of, root_of, first_extension, further_extension, root_named, two_holders, two_longs, named, start, IsOfBitmap, data_count, reached_inside, root_inside, ShowsOnlyMendable, IsSettled, only_root}
use Rattle.std.proofs.lemmas.List.Sums.{sum_by-cons}
use Rattle.ados_model.specs.Faults.HasBadComment.{directory_comment, file_comment}
use Rattle.ados_model.specs.Faults.HasBadCount.{held_none, held_not_full, held_over, no_pointer, not_full, over, wrong_size, wrong_sum}
use Rattle.ados_model.specs.Faults.HasBadName.{colon, empty, long_name, slash}
use Rattle.ados_model.specs.Faults.HasBadOwnKey.{entry_key, extension_key}
use Rattle.ados_model.specs.Faults.HasBadParent.{data_file, entry_parent, extension_file, root_parent}
use Rattle.ados_model.specs.Faults.HasBadType.{data_primary, entry_primary, entry_secondary, extension_primary, extension_secondary, root_primary, root_secondary, root_table}
use Rattle.ados_model.specs.Faults.HasName.{entry_name, root_name}
use Rattle.ados_model.specs.Faults.HasPointers.{extension_pointers, file_pointers}
use Rattle.ados_check.proofs.Pointers.{pointers_are}
use Rattle.ados_faults.proofs.FileData.{data_reached}
use Rattle.ados_validate.proofs.BesidePages.{apart, beside, not_page}
use Rattle.ados_validate.proofs.Carry.{count, inside_a, longs, place_a, reached_a, root_same}
use Rattle.ados_validate.proofs.PageFaults.{not_shown}
use Rattle.ados_validate.proofs.PageRoles.{page_of_reached}

-- two functions that agree on a list
flat_same : (f g : ℕ → List ℕ) (xs : List ℕ) → ((k : ℕ) → k < length xs → f (slice_index xs k) ≡ g (slice_index xs k)) → flat_map f xs ≡ flat_map g xs
flat_same f g [] h = refl
flat_same f g (x ∷ xs) h = ap₂ (λ (ys zs : List ℕ). ys ++ zs) (h 0 (omega arith)) (flat_same f g xs (λ k l. h (suc k) (omega arith)))

sum_same : (f g : ℕ → ℕ) (xs : List ℕ) → ((k : ℕ) → k < length xs → f (slice_index xs k) ≡ g (slice_index xs k)) → sum_by f xs ≡ sum_by g xs
sum_same f g [] h = refl
sum_same f g (x ∷ xs) h = sum_by-cons f x xs ∙ ap₂ (λ (m n : ℕ). m + n) (h 0 (omega arith)) (sum_same f g xs (λ k l. h (suc k) (omega arith))) ∙ sym (sum_by-cons g x xs)

-- a long that is neither the checksum nor the flag of the bitmap
abbrev is_field : ℕ → Bool
is_field j = nat_lt j 128 && (not (j == 5) && not (j == 78))

module _ (a b : List ℕ) (im : IsImage a) (only : ShowsOnlyMendable a) (s : IsSettled a b) where
  few : block_count a ≤ 101602
  few = omega (arith, im.whole, im.size.1)

  back : {block : ℕ} {role : Role} → Reached b block role → Reached a block role
  back h = reached_a a b few only s.rest h

  root : root_of b ≡ root_of a
  root = root_same a b few only s.rest

  within : {block : ℕ} → InImage b block → InImage a block
  within h = inside_a a b few only s.rest h

  -- ---- what is unchanged

  kept : {block : ℕ} {role : Role} → Reached b block role → role ≢ Page → HasSameLongs a b block
  kept h n = longs a b few only s.rest (back h) n

  field : {block : ℕ} {role : Role} → Reached b block role → role ≢ Page → (j : ℕ) → is_field j ≡ true → long b block j ≡ long a block j
  field h n j f =
      let small = and_parts _ _ f in
      let others = and_parts _ _ small.1 in
      kept h n j (ltb-true j 128 small.0) (eqb-false j 5 (not-true _ others.0)) (eqb-false j 78 (not-true _ others.1))

  entry_field : {block : ℕ} → IsEntry b block → (j : ℕ) → is_field j ≡ true → long b block j ≡ long a block j
  entry_field h = field h.2 (λ z. cc z)

  root_field : {block : ℕ} → block ≡ root_of b → (j : ℕ) → is_field j ≡ true → long b block j ≡ long a block j
  root_field e j f = subst (λ (c : ℕ). long b c j ≡ long a c j) (sym e) (field start (λ z. cc z) j f)

  byte : {block : ℕ} {role : Role} → Reached b block role → role ≢ Page → (k : ℕ) → 316 ≤ k → k < 512 → byte_at b block k ≡ byte_at a block k
  byte {block} h n k from below = s.rest.same_byte block k below (beside a only (back h) n k (λ z. omega (arith, z, from)) (λ z. omega (arith, z, from)))

  name_size : {block : ℕ} {role : Role} → Reached b block role → role ≢ Page → byte_at b block NAME_BYTE ≡ byte_at a block NAME_BYTE
  name_size h n = byte h n NAME_BYTE (omega arith) (omega arith)

  short_name : {block : ℕ} {role : Role} → Reached b block role → role ≢ Page → HasShortName b block → HasShortName a block
  short_name h n short = omega (arith, short, name_size h n)

  text : {block : ℕ} {role : Role} → Reached b block role → role ≢ Page → HasShortName a block → text_at b block NAME_BYTE ≡ text_at a block NAME_BYTE
  text {block} h n short =
      ap (bytes_at b block 433) (name_size h n)
      ∙ same_bytes_at (IsOfBitmap a) a b s.rest block 433 (byte_at a block NAME_BYTE) (omega (arith, short)) (λ k from below. beside a only (back h) n k (λ z. omega (arith, z, from)) (λ z. omega (arith, z, from)))

  boot : (k : ℕ) → ¬ IsOfBitmap a 0 k
  boot k (inl h) = let inside = reached_inside a im h in omega (arith, inside.0)
  boot k (inr h) = omega (arith, h.0, (root_inside a im).0)

  boot_bytes : bytes_at b 0 0 3 ≡ bytes_at a 0 0 3
  boot_bytes = same_bytes_at (IsOfBitmap a) a b s.rest 0 0 3 (omega arith) (λ k from below. boot k)

  kind_byte : byte_at b 0 3 ≡ byte_at a 0 3
  kind_byte = s.rest.same_byte 0 3 (omega arith) (boot 3)

  format : format_of b ≡ format_of a
  format = rw kind_byte refl

  ofs : IsOfs b → IsOfs a
  ofs o = sym kind_byte ∙ o

  -- ---- the blocks in their roles

  entry : {block : ℕ} → IsEntry b block → IsEntry a block
  entry h = (h.0, h.1, back h.2)

  file : {block : ℕ} → IsFile b block → IsFile a block
  file h = record { dir = h.dir; slot_of_chain = h.slot_of_chain; reached = back h.reached; secondary = sym (field h.reached (λ z. cc z) 127 refl) ∙ h.secondary }

  directory : {block : ℕ} → IsDirectory b block → IsDirectory a block
  directory h = record { dir = h.dir; slot_of_chain = h.slot_of_chain; reached = back h.reached; secondary = sym (field h.reached (λ z. cc z) 127 refl) ∙ h.secondary }

  names : {holder i block : ℕ} → PlaceNames b holder i block → PlaceNames a holder i block
  names n =
      let place = place_a a b few only s.rest (back n.reached) n.place in
      record { role = n.role; next = n.next; reached = back n.reached; place = place.in_a; names = sym place.kept ∙ n.names }

  -- ---- files

  same_pointers : (block : ℕ) → HasSameLongs a b block → pointers_of b block ≡ pointers_of a block
  same_pointers block same = elim (cases_lt 72 (pointer_count b block)) [
    | inl many ↦ rw (lt-leb (pointer_count b block) 72 many, lt-leb (pointer_count a block) 72 (omega (arith, many, number))) refl
    | inr most ↦ pointers_are b block most ∙ firsts (pointer_count b block) most ∙ ap (first_pointers a block) number ∙ sym (pointers_are a block (omega (arith, most, number)))
  ]
    where
      number : pointer_count b block ≡ pointer_count a block
      number = same 2 (omega arith) (omega arith) (omega arith)

      firsts : (n : ℕ) → n ≤ 72 → first_pointers b block n ≡ first_pointers a block n
      firsts zero l = refl
      firsts (suc n) l = ap₂ (λ (xs : List ℕ) (x : ℕ). xs ++ x ∷ []) (firsts n (omega (arith, l))) (same (77 - n) (omega arith) (λ z. omega (arith, z, l)) (λ z. omega (arith, z)))

  -- a block with pointers of a file: its header, or an extension block
  record IsHolder (of block : ℕ) : Type 0 where
    role : Role
    reached : Reached b block role
    other : role ≢ Page
    leads_on : IsContinued b block → IsPlace b block role NEXT_EXTENSION (Extension of)

  module _ (of : ℕ) (headers : List ℕ) (f : IsFile b of) (l : LinkedOnce b NEXT_EXTENSION of headers) where
    holder : (k : ℕ) → k < length headers → IsHolder of (slice_index headers k)
    holder zero m =
        subst (IsHolder of) (sym l.head) (record { role = Entry f.dir f.slot_of_chain; reached = f.reached; other = λ z. cc z; leads_on = λ more. first_extension f.secondary more })
    holder (suc k) m =
        let before = holder k (omega (arith, m)) in
        let next : k + 1 ≡ suc k = omega arith in
        let link = l.linked k (omega (arith, m)) in
        let inside : InImage b (long b (slice_index headers k) NEXT_EXTENSION) = subst (InImage b) (sym link) (l.inside k (omega (arith, m))) in
        subst (IsHolder of) (link ∙ ap (slice_index headers) next)
        (record { role = Extension of; reached = named before.reached (before.leads_on (λ z. omega (arith, inside.0, z))) inside; other = λ z. cc z; leads_on = λ more. further_extension more })

    holder_longs : (k : ℕ) → k < length headers → HasSameLongs a b (slice_index headers k)
    holder_longs k m = let h = holder k m in kept h.reached h.other

    link_kept : (k : ℕ) → k < length headers → long b (slice_index headers k) NEXT_EXTENSION ≡ long a (slice_index headers k) NEXT_EXTENSION
    link_kept k m = holder_longs k m 126 (omega arith) (omega arith) (omega arith)

    linked : LinkedOnce a NEXT_EXTENSION of headers
    linked =
        let last : last_link b NEXT_EXTENSION headers ≡ last_link a NEXT_EXTENSION headers = link_kept (length headers - 1) (omega (arith, l.not_empty)) in
        record {
          not_empty = l.not_empty;
          head = l.head;
          linked = λ i m. sym (link_kept i (omega (arith, m))) ∙ l.linked i m;
          inside = λ i m. within (l.inside i m);
          once = l.once;
          whole = λ inside. subst (Contains headers) last (l.whole (omega (arith, inside.0, last), omega (arith, inside.1, last, count a b few only s.rest)));
        }

    all_pointers : flat_map (pointers_of b) headers ≡ flat_map (pointers_of a) headers
    all_pointers = flat_same (pointers_of b) (pointers_of a) headers (λ k m. same_pointers (slice_index headers k) (holder_longs k m))

  blocks_of : {of : ℕ} {blocks : List ℕ} → AreDataBlocks b of blocks → AreDataBlocks a of blocks
  blocks_of {of} d = record { is_file = file d.is_file; headers = d.headers; linked = linked of d.headers d.is_file d.linked; pointed = d.pointed ∙ all_pointers of d.headers d.is_file d.linked }

  data_at : {of i block : ℕ} {blocks : List ℕ} → IsDataAt b of blocks i block → IsDataAt a of blocks i block
  data_at d = record { of_file = blocks_of d.of_file; within = d.within; here = d.here; inside = within d.inside }

  data_field : {of i block : ℕ} {blocks : List ℕ} → IsDataAt b of blocks i block → (j : ℕ) → is_field j ≡ true → long b block j ≡ long a block j
  data_field {of} {i} {block} {blocks} d = field (data_reached b of i block blocks d) (λ z. cc z)

  inner : {block : ℕ} → IsInnerData b block → IsInnerData a block
  inner d = record { file = d.file; i = d.i; blocks = d.blocks; at = data_at d.at; followed = d.followed }

  other_size : {block : ℕ} → HoldsOtherSize b block → HoldsOtherSize a block
  other_size h =
      let in_b : (k : ℕ) → k < length h.blocks → InImage b (slice_index h.blocks k) = λ k l. All-get_or (InImage b) h.blocks k 0 l h.inside in
      let held : sum_by (held_count b) h.blocks ≡ sum_by (held_count a) h.blocks =
      sum_same (held_count b) (held_count a) h.blocks (λ k l. data_field (record { of_file = h.of_file; within = l; here = refl; inside = in_b k l }) 3 refl) in
      record {
        blocks = h.blocks;
        of_file = blocks_of h.of_file;
        inside = All-from_get_or (InImage a) h.blocks 0 (λ k l. within (in_b k l));
        wrong = λ z. h.wrong (held ∙ z ∙ sym (field h.of_file.is_file.reached (λ e. cc e) 81 refl));
      }

  -- ---- the faults of each kind

  no_bad_sum : (block : ℕ) → ¬ HasBadSum b block
  no_bad_sum block h = go h.role h.reached h.summed
    where
      summed : (role : Role) → Reached b block role → role ≢ Page → role ≢ Root → HasSum a role → ⊥
      summed role r n m has =
          let sum = same_sum (IsOfBitmap a) a b s.rest block (λ k l. apart a only (back r) n m k) in
          elim (only BadSum block (record { role = role; reached = back r; summed = has; wrong = λ z. h.wrong (sum ∙ z) })) [
            | inl e ↦ cc e
            | inr page ↦ not_page a only (back r) n page.1
          ]

      go : (role : Role) → Reached b block role → HasSum b role → ⊥
      go Root r m = h.wrong (ap (block_sum b) (only_root (back r) refl) ∙ s.root_sum)
      go Page r m = let at = page_of_reached (back r) refl in h.wrong (ap (block_sum b) (sym at.2) ∙ s.page_sums at.0 at.1)
      go (Entry dir t) r m = summed (Entry dir t) r (λ z. cc z) (λ z. cc z) m
      go (Data of) r m = summed (Data of) r (λ z. cc z) (λ z. cc z) (ofs m)
      go (Extension of) r m = summed (Extension of) r (λ z. cc z) (λ z. cc z) m

  bad_type : {block : ℕ} → HasBadType b block → HasBadType a block
  bad_type (root_primary e n) = root_primary (e ∙ root) (λ z. n (root_field e 0 refl ∙ z))
  bad_type (root_table e n) = root_table (e ∙ root) (λ z. n (root_field e 3 refl ∙ z))
  bad_type (root_secondary e n) = root_secondary (e ∙ root) (λ z. n (root_field e 127 refl ∙ z))
  bad_type (entry_primary h n) = entry_primary (entry h) (λ z. n (entry_field h 0 refl ∙ z))
  bad_type (entry_secondary h n m l) =
      let same = entry_field h 127 refl in
      entry_secondary (entry h) (λ z. n (same ∙ z)) (λ z. m (same ∙ z)) (λ z. l (subst IsLinkType (sym same) z))
  bad_type (extension_primary h n) = extension_primary (h.0, back h.1) (λ z. n (field h.1 (λ e. cc e) 0 refl ∙ z))
  bad_type (extension_secondary h n) = extension_secondary (h.0, back h.1) (λ z. n (field h.1 (λ e. cc e) 127 refl ∙ z))
  bad_type (data_primary o h n) = data_primary (ofs o) (h.0, back h.1) (λ z. n (field h.1 (λ e. cc e) 0 refl ∙ z))

  bad_key : {block : ℕ} → HasBadOwnKey b block → HasBadOwnKey a block
  bad_key (entry_key h n) = entry_key (entry h) (λ z. n (entry_field h 1 refl ∙ z))
  bad_key (extension_key h n) = extension_key (h.0, back h.1) (λ z. n (field h.1 (λ e. cc e) 1 refl ∙ z))

  bad_parent : {block : ℕ} → HasBadParent b block → HasBadParent a block
  bad_parent (root_parent e n) = root_parent (e ∙ root) (λ z. n (root_field e 125 refl ∙ z))
  bad_parent (entry_parent h n) = entry_parent (back h) (λ z. n (field h (λ e. cc e) 125 refl ∙ z))
  bad_parent (extension_file h n) = extension_file (back h) (λ z. n (field h (λ e. cc e) 125 refl ∙ z))
  bad_parent (data_file o h n) = data_file (ofs o) (back h) (λ z. n (field h (λ e. cc e) 1 refl ∙ z))

  bad_pointer : {block : ℕ} → HasBadPointer b block → HasBadPointer a block
  bad_pointer (outside h p n) =
      let place = place_a a b few only s.rest (back h) p in
      outside (back h) place.in_a (λ inside. n (omega (arith, inside.0, place.kept), omega (arith, inside.1, place.kept, count a b few only s.rest)))
  bad_pointer {block} (first_data o f n) =
      let pointers = same_pointers block (kept f.reached (λ e. cc e)) in
      first_data (ofs o) (file f) (λ z. n (field f.reached (λ e. cc e) 4 refl ∙ z ∙ ap (λ (xs : List ℕ). slice_index xs 0) (sym pointers)))
  bad_pointer (further_data o d n) = further_data (ofs o) (data_at d) (λ z. n (data_field d 4 refl ∙ z))

  used_twice : {block : ℕ} → IsUsedTwice b block → IsUsedTwice a block
  used_twice (two_holders inside m n two) = two_holders (within inside) (m.0, names m.1) (n.0, names n.1) two
  used_twice (two_longs inside m n two) = two_longs (within inside) (names m) (names n) two
  used_twice (root_named e n) = root_named (e ∙ root) (names n)

  wrong_chain : {block : ℕ} → IsInWrongChain b block → IsInWrongChain a block
  wrong_chain h =
      let short = short_name h.reached (λ z. cc z) h.short in
      record { dir = h.dir; slot_of_chain = h.slot_of_chain; reached = back h.reached; short = short; wrong = λ z. h.wrong (rw (text h.reached (λ e. cc e) short) z) }

  -- the name of the block, if it is short, is unchanged
  record IsNameKept (block : ℕ) : Type 0 where
    in_a : HasName a block
    size : byte_at b block NAME_BYTE ≡ byte_at a block NAME_BYTE
    same : HasShortName a block → text_at b block NAME_BYTE ≡ text_at a block NAME_BYTE

  name_kept : {block : ℕ} → HasName b block → IsNameKept block
  name_kept {block} (root_name e) =
      let h : Reached b block Root = subst (λ (c : ℕ). Reached b c Root) (sym e) start in
      record { in_a = root_name (e ∙ root); size = name_size h (λ z. cc z); same = text h (λ z. cc z) }
  name_kept (entry_name h) = record { in_a = entry_name (entry h); size = name_size h.2 (λ z. cc z); same = text h.2 (λ z. cc z) }

  bad_name : {block : ℕ} → HasBadName b block → HasBadName a block
  bad_name (empty h e) = let name = name_kept h in empty name.in_a (sym name.size ∙ e)
  bad_name (long_name h l) = let name = name_kept h in long_name name.in_a (omega (arith, l, name.size))
  bad_name {block} (slash h m) = let name = name_kept h in elim (cases_lt 30 (byte_at a block NAME_BYTE)) [
    | inl more ↦ long_name name.in_a more
    | inr short ↦ slash name.in_a (subst (λ (xs : List ℕ). Contains xs 47) (name.same short) m)
  ]
  bad_name {block} (colon h m) = let name = name_kept h in elim (cases_lt 30 (byte_at a block NAME_BYTE)) [
    | inl more ↦ long_name name.in_a more
    | inr short ↦ colon name.in_a (subst (λ (xs : List ℕ). Contains xs 58) (name.same short) m)
  ]

  duplicate_name : {block : ℕ} → HasDuplicateName b block → HasDuplicateName a block
  duplicate_name h =
      let short = short_name h.reached (λ z. cc z) h.short in
      let other_short = short_name h.other_reached (λ z. cc z) h.other_short in
      record {
        other = h.other;
        dir = h.dir;
        slot_of_chain = h.slot_of_chain;
        other_slot = h.other_slot;
        reached = back h.reached;
        other_reached = back h.other_reached;
        two = h.two;
        short = short;
        other_short = other_short;
        same = rw (text h.reached (λ z. cc z) short, text h.other_reached (λ z. cc z) other_short) at h.same;
      }

  bad_comment : {block : ℕ} → HasBadComment b block → HasBadComment a block
  bad_comment (directory_comment d l) = directory_comment (directory d) (omega (arith, l, byte d.reached (λ z. cc z) COMMENT_BYTE (omega arith) (omega arith)))
  bad_comment (file_comment f l) = file_comment (file f) (omega (arith, l, byte f.reached (λ z. cc z) COMMENT_BYTE (omega arith) (omega arith)))

  has_pointers : {block : ℕ} → HasPointers b block → HasPointers a block
  has_pointers (file_pointers f) = file_pointers (file f)
  has_pointers (extension_pointers e) = extension_pointers (e.0, back e.1)

  pointers_field : {block : ℕ} → HasPointers b block → (j : ℕ) → is_field j ≡ true → long b block j ≡ long a block j
  pointers_field (file_pointers f) = field f.reached (λ z. cc z)
  pointers_field (extension_pointers e) = field e.1 (λ z. cc z)

  bad_count : {block : ℕ} → HasBadCount b block → HasBadCount a block
  bad_count (over p l) = over (has_pointers p) (omega (arith, l, pointers_field p 2 refl))
  bad_count (not_full p l more) = not_full (has_pointers p) (omega (arith, l, pointers_field p 2 refl)) (λ z. more (pointers_field p 126 refl ∙ z))
  bad_count (no_pointer e z) = no_pointer (e.0, back e.1) (sym (field e.1 (λ x. cc x) 2 refl) ∙ z)
  bad_count (wrong_size d n) = wrong_size (blocks_of d) (λ z. n (z ∙ sym (ap₂ data_count format (field d.is_file.reached (λ e. cc e) 81 refl))))
  bad_count (held_not_full o d n) = held_not_full (ofs o) (inner d) (λ z. n (data_field d.at 3 refl ∙ z))
  bad_count (held_none o d z) = held_none (ofs o) (data_at d) (sym (data_field d 3 refl) ∙ z)
  bad_count (held_over o d l) = held_over (ofs o) (data_at d) (omega (arith, l, data_field d 3 refl))
  bad_count (wrong_sum o h) = wrong_sum (ofs o) (other_size h)

  bad_sequence : {block : ℕ} → HasBadSequence b block → HasBadSequence a block
  bad_sequence h = record { file = h.file; i = h.i; blocks = h.blocks; ofs = ofs h.ofs; at = data_at h.at; wrong = λ z. h.wrong (data_field h.at 2 refl ∙ z) }

  -- ---- all faults

  pub shows_none : ShowsNoFault b
  shows_none NotADosDisk block h = not_shown a only NotADosDisk block refl ((λ z. h.0 (boot_bytes ∙ z)), h.1)
  shows_none UnsupportedKind block h = not_shown a only UnsupportedKind block refl (sym boot_bytes ∙ h.0, omega (arith, h.1, kind_byte), h.2)
  shows_none BadSum block h = no_bad_sum block h
  shows_none BadType block h = not_shown a only BadType block refl (bad_type h)
  shows_none BadOwnKey block h = not_shown a only BadOwnKey block refl (bad_key h)
  shows_none BadParent block h = not_shown a only BadParent block refl (bad_parent h)
  shows_none BadPointer block h = not_shown a only BadPointer block refl (bad_pointer h)
  shows_none BlockUsedTwice block h = not_shown a only BlockUsedTwice block refl (used_twice h)
  shows_none WrongChain block h = not_shown a only WrongChain block refl (wrong_chain h)
  shows_none BadName block h = not_shown a only BadName block refl (bad_name h)
  shows_none DuplicateName block h = not_shown a only DuplicateName block refl (duplicate_name h)
  shows_none BadComment block h = not_shown a only BadComment block refl (bad_comment h)
  shows_none BadCount block h = not_shown a only BadCount block refl (bad_count h)
  shows_none BadSequence block h = not_shown a only BadSequence block refl (bad_sequence h)
  shows_none LinkEntry block h = not_shown a only LinkEntry block refl (entry h.0, subst IsLinkType (entry_field h.0 127 refl) h.1)
  shows_none MarkedFree block h = s.not_valid h.valid
  shows_none NoMemory block h = h
