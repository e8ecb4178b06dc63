-- Two images of one tree that come from one image are the same, byte for byte.
use Rattle.ados_change.proofs.Common.{◌≡◌, ◌≢◌, ℕ, zero, suc, ◌+◌, ◌-◌, ◌*◌, ◌/◌, ◌%◌, ◌<◌, ◌≤◌, inl, inr, min, Bool, true, false, cond, List, [], ◌∷◌, length, slice_index, Contains, Option, None, Some, IsSome, refl, sym, ap, ap₂, ◌∙◌, subst, arith, false≢true, cases_lt, cases_eq, ext_get_or, Format, Ofs, Ffs, IsImage, IsInside, block_count, page_count, byte_at, long, long-below, has_free_bit, HasFreeBit, file_size, held_count, pointer_count, secondary_type, HasText, chain_head, next_of, byte-bytes_at, root_key, COMMENT_BYTE, NAME_BYTE, NEXT_IN_CHAIN, FILE_TYPE, Content, Node, Tree, root, data_size, data_start, Directory, File, Duty, HasDuty, HasNode, HasEntry, HasFile, HasExtension, HasOfsData, Stands, date_at, format_byte, in_slot, type_of, directory_node, root_or_parent, slice_get-back, count_same, Role, Reached, StandsAt, IsFileNode, entry_at, root_at, serves_at, duty_of, IsField, Alike, InLongs, InText, IsOfs, IsFile, InImage, first_data, root_longs, root_name, directory_longs, file_longs, entry_name, entry_comment, extension_longs, ofs_data_longs, ofs_data, ffs_data, HasBit, page_block, pages_of, bit_of_inside, IsTaken, KeepsRest, HasData, IsBehindEnd, data_at, some_in, Date3, slot, Contains-get_or}
use Rattle.std.specs.List.{AllByRecursion}
use Rattle.std.specs.Int.{bit_at}
use Rattle.std.proofs.lemmas.Bool.{cases_Bool}
use Rattle.std.proofs.lemmas.Nat.Bits.{same_from_bits_below}
use Rattle.adf_block.specs.declared.layout.TheConstants.{DIRECTORY_TYPE, NEXT_DATA, NEXT_EXTENSION}
use Rattle.ados_map.proofs.BitLemmas.{bit-mark, mark, marked-at}
use Rattle.ados_model.specs.Kept.{root_runs, directory_runs, file_runs, extension_runs}
use Rattle.ados_model.specs.declared.role.Role.TheVariants as roles
use Rattle.ados_change.specs.Laws.{OneGrows, SameRestSameBytes}
use Rattle.ados_change.proofs.BytesKept.{first_pointer}
use Rattle.ados_change.proofs.BytesUntold.{bytes_same}
use Rattle.ados_change.proofs.Contents.{file_not_root}
use Rattle.ados_change.proofs.FilesStay.{file_of_key}
use Rattle.ados_change.proofs.Loose.{parent_not_root}
use Rattle.ados_change.proofs.Reaching.{entry_stands, stands_reached}
use Rattle.ados_change.proofs.SameFields.{block_bytes, in_text, only_long, text_same}
use Rattle.ados_change.proofs.SameLayout.{data_of, file_with, key_of, pages_same, parts_same, uses_agree}
use Rattle.ados_change.proofs.Writable.{format_is, inside, named_used, page_serves}

-- ---- bytes in no field, by role

no_root_field : (image : List ℕ) (b i : ℕ) → ¬ InLongs (root_runs (page_count (block_count image))) i → ¬ InText image b NAME_BYTE i → ¬ IsField image b roles.Root i
no_root_field image b i n text (root_longs m) = n m
no_root_field image b i n text (root_name m) = text m

no_entry_field : (image : List ℕ) (b i dir r : ℕ) → (secondary_type image b ≡ DIRECTORY_TYPE → ¬ InLongs directory_runs i) → (secondary_type image b ≡ FILE_TYPE → ¬ InLongs (file_runs (pointer_count image b)) i)
    → ¬ InText image b NAME_BYTE i → ¬ InText image b COMMENT_BYTE i → ¬ IsField image b (roles.Entry dir r) i
no_entry_field image b i dir r d f name comment (directory_longs e m) = d e m
no_entry_field image b i dir r d f name comment (file_longs e m) = f e m
no_entry_field image b i dir r d f name comment (entry_name m) = name m
no_entry_field image b i dir r d f name comment (entry_comment m) = comment m

no_extension_field : (image : List ℕ) (b i file : ℕ) → ¬ InLongs (extension_runs (pointer_count image b)) i → ¬ IsField image b (roles.Extension file) i
no_extension_field image b i file n (extension_longs m) = n m

no_data_field : (image : List ℕ) (b i file : ℕ) → IsOfs image → ¬ InLongs ((0, 5) ∷ []) i → 24 + held_count image b ≤ i → ¬ IsField image b (roles.Data file) i
no_data_field image b i file ofs n past (ofs_data_longs o m) = n m
no_data_field image b i file ofs n past (ofs_data o l m) = omega (arith, past, m)
no_data_field image b i file ofs n past (ffs_data none) = none ofs

-- a pointer of a file, in pointer block q
pointer_at : (image : List ℕ) (format : Format) (file : ℕ) (blocks extensions bytes : List ℕ) → HasFile image format file blocks extensions bytes → (q p : ℕ) → p < 72 → 72 * q + p < length blocks
    → long image (slice_index (file ∷ extensions) q) (77 - p) ≡ slice_index blocks (72 * q + p)
pointer_at image format file blocks extensions bytes f q p small l =
    let quotient : (72 * q + p) / 72 ≡ q = omega (arith, small) in
    let remainder : (72 * q + p) % 72 ≡ p = omega (arith, small) in
    ap₂ (λ (x y : ℕ). long image (slice_index (file ∷ extensions) x) (77 - y)) (sym quotient) (sym remainder) ∙ f.pointers (72 * q + p) l

-- OFS by the byte after `DOS`
ofs_image : (image : List ℕ) (t : Tree) → Stands image t → t.format ≡ Ofs → IsOfs image
ofs_image image t s e = sym (byte-bytes_at image 0 0 4 3 (omega arith)) ∙ ap (λ (xs : List ℕ). slice_index xs 3) s.boot ∙ ap format_byte e

-- ---- the image before

module _ (old : List ℕ) (t : Tree) (s : Stands old t) where
  -- a block with a role of this kind
  record Was (role : Role) (b : ℕ) : Type 0 where
    before : Role
    reached : Reached old b before
    alike : Alike before role

  was_root : (b : ℕ) → b ≡ root t → Was roles.Root b
  was_root b e = record { before = roles.Root; reached = stands_reached old t s roles.Root 0 b (record { within = omega arith; here = sym e; holder = tt }); alike = tt }

  was_page : (b i : ℕ) → HasDuty t s.layout b (Duty.Page i) → Was roles.Page b
  was_page b i m =
      let at = slice_get-back s.layout.pages i b m in
      record { before = roles.Page; reached = stands_reached old t s roles.Page i b (record { within = at.0; here = at.1; holder = tt }); alike = tt }

  was_entry : (b dir r : ℕ) → HasDuty t s.layout b Duty.Key → b ≢ root t → Was (roles.Entry dir r) b
  was_entry b dir r m n =
      let a = some_in (t.nodes b) m in
      elim (root_or_parent t s.proper b a.0 a.1) [
        | inl e ↦ absurd (n e)
        | inr up ↦ let place = entry_stands old t s b up.0 a.0 a.1 up.1 in record { before = roles.Entry up.0 (slot a.0.name); reached = stands_reached old t s (roles.Entry up.0 (slot a.0.name)) place.0 b place.1; alike = tt }
      ]

  was_data : (b file i : ℕ) → HasDuty t s.layout b (Duty.Data file i) → Was (roles.Data file) b
  was_data b file i m =
      let at = slice_get-back (s.layout.file_data file) i b m in
      record { before = roles.Data file; reached = stands_reached old t s (roles.Data file) i b (record { within = at.0; here = at.1; holder = file_with old t s true file i at.0 }); alike = tt }

  was_extension : (b file i : ℕ) → HasDuty t s.layout b (Duty.Extension file i) → Was (roles.Extension file) b
  was_extension b file i m =
      let at = slice_get-back (s.layout.extensions file) i b m in
      record { before = roles.Extension file; reached = stands_reached old t s (roles.Extension file) i b (record { within = at.0; here = at.1; holder = file_with old t s false file i at.0 }); alike = tt }

  -- the key of a file is a file that is reached
  file_reached : (file : ℕ) → IsFileNode old t s file → IsFile old file
  file_reached file f = elim (root_or_parent t s.proper file f.node f.at) [
    | inl e ↦ absurd (file_not_root t file f.node f.bytes [] f.at f.content s.proper e)
    | inr up ↦
        let place = entry_stands old t s file up.0 f.node f.at up.1 in
        record {
          dir = up.0;
          slot_of_chain = slot f.node.name;
          reached = stands_reached old t s (roles.Entry up.0 (slot f.node.name)) place.0 file place.1;
          secondary = (s.entries file up.0 f.node f.at up.1).secondary ∙ ap type_of f.content;
        }
  ]

-- ---- two images

module _ (old a z : List ℕ) (t u : Tree) (s : Stands old t) (one : OneGrows t u) (ra : Stands a u) (rz : Stands z u) (ka : KeepsRest old a) (kz : KeepsRest old z) (ia : IsImage a) (iz : IsImage z) where
  same_root : root u ≡ root t
  same_root = let blocks : u.blocks ≡ t.blocks = omega (arith, ra.whole, s.whole, ka.kept.size) in ap root_key blocks

  count_old : block_count a ≡ block_count old
  count_old = ap (λ (n : ℕ). n / 512) ka.kept.size

  counts : block_count z ≡ block_count a
  counts = ap (λ (n : ℕ). n / 512) (kz.kept.size ∙ sym ka.kept.size)

  blocks_same : (file : ℕ) → ra.layout.file_data file ≡ rz.layout.file_data file
  blocks_same file = parts_same old a z t u s one ra rz ka kz true file

  extensions_same : (file : ℕ) → ra.layout.extensions file ≡ rz.layout.extensions file
  extensions_same file = parts_same old a z t u s one ra rz ka kz false file

  bitmap_same : ra.layout.pages ≡ rz.layout.pages
  bitmap_same = pages_same old a z t u s ra rz ka kz

  -- a position in the first image is one in the second
  over : (role : Role) (k b : ℕ) → StandsAt a u ra role k b → StandsAt z u rz role k b
  over roles.Root k b h = record { within = h.within; here = h.here; holder = tt }
  over roles.Page k b h = record { within = subst (λ (xs : List ℕ). k < length xs) bitmap_same h.within; here = ap (λ (xs : List ℕ). slice_index xs k) (sym bitmap_same) ∙ h.here; holder = tt }
  over (roles.Entry dir r) k b h = record { within = h.within; here = h.here; holder = h.holder }
  over (roles.Data file) k b h = record {
    within = subst (λ (xs : List ℕ). k < length xs) (blocks_same file) h.within;
    here = ap (λ (xs : List ℕ). slice_index xs k) (sym (blocks_same file)) ∙ h.here;
    holder = record { node = h.holder.node; bytes = h.holder.bytes; at = h.holder.at; content = h.holder.content };
  }
  over (roles.Extension file) k b h = record {
    within = subst (λ (xs : List ℕ). k < length xs) (extensions_same file) h.within;
    here = ap (λ (xs : List ℕ). slice_index xs k) (sym (extensions_same file)) ∙ h.here;
    holder = record { node = h.holder.node; bytes = h.holder.bytes; at = h.holder.at; content = h.holder.content };
  }

  -- a block in use that was free was allocated
  taken_first : (role : Role) (k b : ℕ) → StandsAt a u ra role k b → HasFreeBit old b → IsTaken old a b
  taken_first role k b m free =
      let serves = serves_at a u ra role k b m in
      let i = inside a u ra b (duty_of a u ra role k) serves in
      record { inside = (i.0, omega (arith, i.1, count_old)); was_free = free; in_use = λ f. false≢true (sym (named_used a u ra b (duty_of a u ra role k) serves) ∙ f) }

  taken_second : (role : Role) (k b : ℕ) → StandsAt a u ra role k b → HasFreeBit old b → IsTaken old z b
  taken_second role k b m free =
      let serves = serves_at z u rz role k b (over role k b m) in
      record { inside = (taken_first role k b m free).inside; was_free = free; in_use = λ f. false≢true (sym (named_used z u rz b (duty_of z u rz role k) serves) ∙ f) }

  -- one that was in use had a role of the same kind
  was : (role : Role) (k b : ℕ) → StandsAt a u ra role k b → has_free_bit old b ≡ false → Was old t s role b
  was role k b m used = elim (ka.uses t u s ra b (duty_of a u ra role k) (serves_at a u ra role k b m)) [
    | inr free ↦ absurd (false≢true (sym used ∙ free))
    | inl duty ↦ go role m duty
  ]
    where
      go : (role : Role) → StandsAt a u ra role k b → HasDuty t s.layout b (duty_of a u ra role k) → Was old t s role b
      go roles.Root m duty = was_root old t s b (root_at a u ra k b m ∙ same_root)
      go roles.Page m duty = was_page old t s b k duty
      go (roles.Entry dir r) m duty =
          let n = entry_at a u ra dir r k b m in
          was_entry old t s b dir r duty (λ e. parent_not_root u ra.proper.root_node b dir (rw n.at n.parent) (e ∙ sym same_root))
      go (roles.Data file) m duty = was_data old t s b file k duty
      go (roles.Extension file) m duty = was_extension old t s b file k duty

  -- a byte in no field
  loose : (role : Role) (k b i : ℕ) → StandsAt a u ra role k b → i < 512 → ¬ IsField a b role i → ¬ IsField z b role i → byte_at a b i ≡ byte_at z b i
  loose role k b i m l n n' =
      let here = stands_reached a u ra role k b m in
      let there = stands_reached z u rz role k b (over role k b m) in
      elim (cases_Bool (has_free_bit old b)) [
        | inl free ↦ ka.lowest.zero_else b i role (taken_first role k b m free) here l n ∙ sym (kz.lowest.zero_else b i role (taken_second role k b m free) there l n')
        | inr used ↦
            let w = was role k b m used in
            ka.kept.others b i w.before role l w.reached here w.alike n ∙ sym (kz.kept.others b i w.before role l w.reached there w.alike n')
      ]

  -- ---- bitmap blocks

  used_first : (k : ℕ) → IsInside (block_count a) k → has_free_bit a k ≡ false → has_free_bit z k ≡ false
  used_first k i used =
      let named = ra.marked_used k (i.0, omega (arith, i.1, count_same a u ra)) (λ f. false≢true (sym used ∙ f)) in
      named_used z u rz k named.0 (uses_agree old a z t u s one ra rz ka kz k named.0 named.1)

  used_second : (k : ℕ) → IsInside (block_count a) k → has_free_bit z k ≡ false → has_free_bit a k ≡ false
  used_second k i used =
      let named = rz.marked_used k (i.0, omega (arith, i.1, count_same a u ra)) (λ f. false≢true (sym used ∙ f)) in
      named_used a u ra k named.0 (uses_agree old z a t u s one rz ra kz ka k named.0 named.1)

  mark_same : (k : ℕ) → HasBit a k → has_free_bit a k ≡ has_free_bit z k
  mark_same k has = elim (cases_lt k (block_count a)) [
    | inr past ↦ ka.untold.past_end.bits k (has.0, omega (arith, has.1, count_old)) (omega (arith, past, count_old)) ∙ sym (kz.untold.past_end.bits k (has.0, omega (arith, has.1, count_old)) (omega (arith, past, count_old)))
    | inl within ↦ elim (cases_Bool (has_free_bit a k)) [
      | inr used ↦ used ∙ sym (used_first k (has.0, within) used)
      | inl free ↦ elim (cases_Bool (has_free_bit z k)) [
        | inl also ↦ free ∙ sym also
        | inr used ↦ absurd (false≢true (sym (used_second k (has.0, within) used) ∙ free))
      ]
    ]
  ]

  page_bytes : (p b : ℕ) → StandsAt a u ra roles.Page p b → (i : ℕ) → i < 512 → byte_at a b i ≡ byte_at z b i
  page_bytes p b m =
      bytes_same z a iz ia b 0 (omega arith) (rz.pages b (contains rz.layout.pages (over roles.Page p b m).within (over roles.Page p b m).here)) (ra.pages b (contains ra.layout.pages m.within m.here)) longs
    where
      contains : (xs : List ℕ) → p < length xs → slice_index xs p ≡ b → Contains xs b
      contains xs l e = subst (Contains xs) e (Contains-get_or xs p 0 l)

      few : p < pages_of a
      few = omega (arith, m.within, ra.fits.pages, count_same a u ra)

      first_is : page_block a p ≡ b
      first_is = sym (slice_get-back ra.layout.pages p (page_block a p) (page_serves a u ra p few)).1 ∙ m.here

      second_is : page_block z p ≡ b
      second_is = sym (slice_get-back rz.layout.pages p (page_block z p) (page_serves z u rz p (omega (arith, few, ap page_count counts)))).1 ∙ (over roles.Page p b m).here

      longs : (j : ℕ) → j < 128 → j ≢ 0 → long a b j ≡ long z b j
      longs j l n = same_from_bits_below 32 (long a b j) (long z b j) (long-below a b j ia) (long-below z b j iz) bits
        where
          quotient : (127 * p + (j - 1)) / 127 ≡ p
          quotient = omega (arith, l)

          remainder : 1 + (127 * p + (j - 1)) % 127 ≡ j
          remainder = omega (arith, l, n)

          mark_is : (image : List ℕ) (i : ℕ) → i < 32 → page_block image p ≡ b → mark (long image b j) i ≡ has_free_bit image (2 + 32 * (127 * p + (j - 1)) + i)
          mark_is image i small e =
              sym (marked-at image (127 * p + (j - 1)) i small ∙ ap₂ (λ (x y : ℕ). mark (long image (page_block image x) y) i) quotient remainder ∙ ap (λ (c : ℕ). mark (long image c j) i) e)

          bits : (i : ℕ) → i < 32 → bit_at (long a b j) i ≡ bit_at (long z b j) i
          bits i small =
              let has : HasBit a (2 + 32 * (127 * p + (j - 1)) + i) = (omega arith, omega (arith, small, l, few)) in
              let same = mark_is a i small first_is ∙ mark_same (2 + 32 * (127 * p + (j - 1)) + i) has ∙ sym (mark_is z i small second_is) in
              bit-mark (long a b j) i ∙ ap (λ (x : Bool). cond x 1 0) same ∙ sym (bit-mark (long z b j) i)

  -- ---- roots and entries

  dates_same : (b c : ℕ) (d : Date3) → date_at a b c ≡ d → date_at z b c ≡ d → (j : ℕ) → c ≤ j → j ≤ c + 2 → long a b j ≡ long z b j
  dates_same b c d e f j l m =
      let at : (k : ℕ) → j ≡ k → long a b k ≡ long z b k → long a b j ≡ long z b j = λ k same g. ap (long a b) same ∙ g ∙ ap (long z b) (sym same) in
      elim (cases_eq j c) [
        | inl x ↦ at c x (ap (λ (y : Date3). y.days) (e ∙ sym f))
        | inr n ↦ elim (cases_eq j (c + 1)) [
          | inl x ↦ at (c + 1) x (ap (λ (y : Date3). y.minutes) (e ∙ sym f))
          | inr o ↦ at (c + 2) (omega (arith, l, m, n, o)) (ap (λ (y : Date3). y.ticks) (e ∙ sym f))
        ]
      ]

  slots_same : (b : ℕ) (node : Node) (keys : List ℕ) → u.nodes b ≡ Some node → node.content ≡ Directory keys → (j : ℕ) → 6 ≤ j → j < 78 → long a b j ≡ long z b j
  slots_same b node keys at content j l m =
      let place : 6 + (j - 6) ≡ j = omega (arith, l) in
      let small : j - 6 < 72 = omega (arith, l, m) in
      ap (long a b) (sym place)
      ∙ chain_head a NEXT_IN_CHAIN (long a b (6 + (j - 6))) (in_slot u b (j - 6)) (ra.chains b node keys (j - 6) at content small)
      ∙ sym (chain_head z NEXT_IN_CHAIN (long z b (6 + (j - 6))) (in_slot u b (j - 6)) (rz.chains b node keys (j - 6) at content small))
      ∙ ap (long z b) place

  in_other : (b at : ℕ) (text : List ℕ) → HasText a b at text → HasText z b at text → (i : ℕ) → InText z b at i → InText a b at i
  in_other b at text h k i m = (m.0, omega (arith, m.1, h.counted, k.counted))

  root_bytes : (i : ℕ) → i < 512 → byte_at a (root u) i ≡ byte_at z (root u) i
  root_bytes = block_bytes a z (root u) ia iz h.sum k.sum (root_runs (page_count (block_count a))) told rest
    where
      node : Node
      node = ra.proper.root_node.0

      at : u.nodes (root u) ≡ Some node
      at = ra.proper.root_node.1

      h : HasNode a (root u) node
      h = ra.nodes (root u) node at

      k : HasNode z (root u) node
      k = rz.nodes (root u) node at

      stood : StandsAt a u ra roles.Root 0 (root u)
      stood = record { within = omega arith; here = refl; holder = tt }

      table : (j : ℕ) → 5 ≤ j → j ≤ 78 → j ≢ 5 → long a (root u) j ≡ long z (root u) j
      table j l m n = elim (cases_lt j 78) [
        | inl low ↦ slots_same (root u) node ra.proper.root_node.2.keys at ra.proper.root_node.2.directory j (omega (arith, l, n)) low
        | inr top ↦ only_long a z (root u) 78 (ra.root_fields.valid ∙ sym rz.root_fields.valid) j top m
      ]

      maps : (j : ℕ) → 79 ≤ j → j ≤ 78 + page_count (block_count a) → long a (root u) j ≡ long z (root u) j
      maps j l m =
          let place : 79 + (j - 79) ≡ j = omega (arith, l) in
          let few : j - 79 < length ra.layout.pages = omega (arith, l, m, ra.fits.pages, count_same a u ra) in
          ap (long a (root u)) (sym place)
          ∙ ra.root_fields.pages (j - 79) few
          ∙ ap (λ (xs : List ℕ). slice_index xs (j - 79)) bitmap_same
          ∙ sym (rz.root_fields.pages (j - 79) (subst (λ (xs : List ℕ). j - 79 < length xs) bitmap_same few))
          ∙ ap (long z (root u)) place

      disk : (j : ℕ) → 118 ≤ j → j ≤ 123 → long a (root u) j ≡ long z (root u) j
      disk j l m = elim (cases_lt j 121) [
        | inl low ↦ dates_same (root u) 118 u.disk_date ra.root_fields.disk_date rz.root_fields.disk_date j l (omega (arith, low))
        | inr high ↦ dates_same (root u) 121 u.creation_date ra.root_fields.creation_date rz.root_fields.creation_date j high m
      ]

      told : AllByRecursion (λ (run : ℕ × ℕ). (j : ℕ) → run.0 ≤ j → j ≤ run.1 → j ≢ 5 → long a (root u) j ≡ long z (root u) j) (root_runs (page_count (block_count a)))
      told = (
        (λ j l m n. only_long a z (root u) 0 (h.primary ∙ sym k.primary) j l m),
        (
          (λ j l m n. only_long a z (root u) 3 (ra.root_fields.table_size ∙ sym rz.root_fields.table_size) j l m),
          (
            table,
            (
              (λ j l m n. maps j l m),
              (
                (λ j l m n. dates_same (root u) 105 node.date h.date k.date j l m),
                (
                  (λ j l m n. disk j l m),
                  (
                    (λ j l m n. only_long a z (root u) 125 (ra.root_fields.parent ∙ sym rz.root_fields.parent) j l m),
                    ((λ j l m n. only_long a z (root u) 127 (ra.root_fields.secondary ∙ sym rz.root_fields.secondary) j l m), tt),
                  ),
                ),
              ),
            ),
          ),
        ),
      )

      rest : (i : ℕ) → i < 512 → ¬ InLongs (root_runs (page_count (block_count a))) i → byte_at a (root u) i ≡ byte_at z (root u) i
      rest i l n = elim (in_text a z (root u) NAME_BYTE i) [
        | inl m ↦ text_same a z (root u) NAME_BYTE node.name h.name k.name i m
        | inr none ↦
            loose roles.Root 0 (root u) i stood l (no_root_field a (root u) i n none)
            (no_root_field z (root u) i (λ m. n (subst (λ (c : ℕ). InLongs (root_runs (page_count c)) i) counts m)) (λ m. none (in_other (root u) NAME_BYTE node.name h.name k.name i m)))
      ]

  -- the longs of an entry beside its table or data: next in chain, and parent
  chain_same : (dir r k b : ℕ) → StandsAt a u ra (roles.Entry dir r) k b → long a b NEXT_IN_CHAIN ≡ long z b NEXT_IN_CHAIN
  chain_same dir r k b m =
      let d = directory_node u ra.proper dir b (entry_at a u ra dir r k b m).listed in
      ap (λ (c : ℕ). long a c NEXT_IN_CHAIN) (sym m.here)
      ∙ next_of a NEXT_IN_CHAIN (long a dir (6 + r)) (in_slot u dir r) (ra.chains dir d.0 d.1 r d.2 d.3 m.holder) k m.within
      ∙ sym (next_of z NEXT_IN_CHAIN (long z dir (6 + r)) (in_slot u dir r) (rz.chains dir d.0 d.1 r d.2 d.3 m.holder) k m.within)
      ∙ ap (λ (c : ℕ). long z c NEXT_IN_CHAIN) m.here

  -- the pointers of a pointer block of a file
  pointers_same : (file : ℕ) (node : Node) (bytes : List ℕ) → u.nodes file ≡ Some node → node.content ≡ File bytes → (q b : ℕ) → q ≤ length (ra.layout.extensions file) → slice_index (file ∷ ra.layout.extensions file) q ≡ b
      → (long a b 2 ≡ long z b 2) × ((j : ℕ) → 78 - long a b 2 ≤ j → j ≤ 77 → long a b j ≡ long z b j)
  pointers_same file node bytes at content q b l here = (
    ap (λ (c : ℕ). long a c 2) (sym here) ∙ f.counts q l ∙ ap (λ (xs : List ℕ). min 72 (length xs - 72 * q)) (blocks_same file) ∙ sym (g.counts q m) ∙ ap (λ (c : ℕ). long z c 2) there,
    (λ j low high.
        let count : long a b 2 ≡ min 72 (length (ra.layout.file_data file) - 72 * q) = ap (λ (c : ℕ). long a c 2) (sym here) ∙ f.counts q l in
        let place : 77 - (77 - j) ≡ j = omega (arith, high) in
        let small : 77 - j < 72 = omega (arith, low, high, count) in
        let within : 72 * q + (77 - j) < length (ra.layout.file_data file) = omega (arith, low, high, count) in
        ap (long a b) (sym place)
        ∙ ap (λ (c : ℕ). long a c (77 - (77 - j))) (sym here)
        ∙ pointer_at a u.format file (ra.layout.file_data file) (ra.layout.extensions file) bytes f q (77 - j) small within
        ∙ ap (λ (xs : List ℕ). slice_index xs (72 * q + (77 - j))) (blocks_same file)
        ∙ sym (pointer_at z u.format file (rz.layout.file_data file) (rz.layout.extensions file) bytes g q (77 - j) small (subst (λ (xs : List ℕ). 72 * q + (77 - j) < length xs) (blocks_same file) within))
        ∙ ap (λ (c : ℕ). long z c (77 - (77 - j))) there
        ∙ ap (long z b) place),
  )
    where
      f : HasFile a u.format file (ra.layout.file_data file) (ra.layout.extensions file) bytes
      f = ra.files file node bytes at content

      g : HasFile z u.format file (rz.layout.file_data file) (rz.layout.extensions file) bytes
      g = rz.files file node bytes at content

      m : q ≤ length (rz.layout.extensions file)
      m = subst (λ (xs : List ℕ). q ≤ length xs) (extensions_same file) l

      there : slice_index (file ∷ rz.layout.extensions file) q ≡ b
      there = ap (λ (xs : List ℕ). slice_index (file ∷ xs) q) (sym (extensions_same file)) ∙ here

  -- the header's long for the first data block
  first_same : (dir r k b : ℕ) → StandsAt a u ra (roles.Entry dir r) k b → (node : Node) (bytes : List ℕ) → u.nodes b ≡ Some node → node.content ≡ File bytes → long a b 4 ≡ long z b 4
  first_same dir r k b m node bytes at content = elim (cases_Bool (has_free_bit old b)) [
    | inl free ↦ ka.lowest.first b (taken_first (roles.Entry dir r) k b m free) is_file ∙ firsts ∙ sym (kz.lowest.first b (taken_second (roles.Entry dir r) k b m free) also)
    | inr used ↦ elim (ka.kinds b (key_of a u ra b fa)) [
      | inr free ↦ absurd (false≢true (sym used ∙ free))
      | inl key ↦
          let before = file_reached old t s b (file_of_key old t s b key) in
          let x = ka.kept.first b before is_file in
          let y = kz.kept.first b before also in
          elim (cases_eq (first_data a b) (first_data old b)) [
            | inl same ↦ x.same same ∙ sym (y.same (sym firsts ∙ same))
            | inr other ↦ x.other other ∙ firsts ∙ sym (y.other (λ e. other (firsts ∙ e)))
          ]
    ]
  ]
    where
      fa : IsFileNode a u ra b
      fa = record { node = node; bytes = bytes; at = at; content = content }

      fz : IsFileNode z u rz b
      fz = record { node = node; bytes = bytes; at = at; content = content }

      is_file : IsFile a b
      is_file = file_reached a u ra b fa

      also : IsFile z b
      also = file_reached z u rz b fz

      firsts : first_data a b ≡ first_data z b
      firsts = first_pointer a u ra b fa ∙ ap (λ (xs : List ℕ). slice_index xs 0) (blocks_same b) ∙ sym (first_pointer z u rz b fz)

  -- ---- entries

  module _ (dir r k b : ℕ) (m : StandsAt a u ra (roles.Entry dir r) k b) (node : Node) (at : u.nodes b ≡ Some node) (parent : node.parent ≡ Some dir) where
    h : HasNode a b node
    h = ra.nodes b node at

    h' : HasNode z b node
    h' = rz.nodes b node at

    e : HasEntry a b node dir
    e = ra.entries b dir node at parent

    e' : HasEntry z b node dir
    e' = rz.entries b dir node at parent

    ends_same : (j : ℕ) → 124 ≤ j → j ≤ 125 → long a b j ≡ long z b j
    ends_same j l o = elim (cases_eq j 124) [
      | inl x ↦ ap (long a b) x ∙ chain_same dir r k b m ∙ ap (long z b) (sym x)
      | inr n ↦ only_long a z b 125 (e.parent ∙ sym e'.parent) j (omega (arith, l, n)) o
    ]

    heads_same : (j : ℕ) → 0 ≤ j → j ≤ 1 → long a b j ≡ long z b j
    heads_same j l o = elim (cases_eq j 0) [
      | inl x ↦ ap (long a b) x ∙ h.primary ∙ sym h'.primary ∙ ap (long z b) (sym x)
      | inr n ↦ only_long a z b 1 (e.key_field ∙ sym e'.key_field) j (omega (arith, n)) o
    ]

    -- a byte outside the runs of its kind
    entry_rest : (i : ℕ) → i < 512 → (secondary_type a b ≡ DIRECTORY_TYPE → ¬ InLongs directory_runs i) → (secondary_type a b ≡ FILE_TYPE → ¬ InLongs (file_runs (pointer_count a b)) i)
        → (secondary_type z b ≡ DIRECTORY_TYPE → ¬ InLongs directory_runs i) → (secondary_type z b ≡ FILE_TYPE → ¬ InLongs (file_runs (pointer_count z b)) i) → byte_at a b i ≡ byte_at z b i
    entry_rest i l d f d' f' = elim (in_text a z b NAME_BYTE i) [
      | inl x ↦ text_same a z b NAME_BYTE node.name h.name h'.name i x
      | inr no_name ↦ elim (in_text a z b COMMENT_BYTE i) [
        | inl x ↦ text_same a z b COMMENT_BYTE node.comment e.comment e'.comment i x
        | inr no_comment ↦
            loose (roles.Entry dir r) k b i m l (no_entry_field a b i dir r d f no_name no_comment)
            (no_entry_field z b i dir r d' f' (λ x. no_name (in_other b NAME_BYTE node.name h.name h'.name i x)) (λ x. no_comment (in_other b COMMENT_BYTE node.comment e.comment e'.comment i x)))
      ]
    ]

    directory_bytes : (keys : List ℕ) → node.content ≡ Directory keys → (i : ℕ) → i < 512 → byte_at a b i ≡ byte_at z b i
    directory_bytes keys content = block_bytes a z b ia iz h.sum h'.sum directory_runs told rest
      where
        typed : secondary_type a b ≡ DIRECTORY_TYPE
        typed = e.secondary ∙ ap type_of content

        typed' : secondary_type z b ≡ DIRECTORY_TYPE
        typed' = e'.secondary ∙ ap type_of content

        told : AllByRecursion (λ (run : ℕ × ℕ). (j : ℕ) → run.0 ≤ j → j ≤ run.1 → j ≢ 5 → long a b j ≡ long z b j) directory_runs
        told = (
          (λ j l o n. heads_same j l o),
          (
            (λ j l o n. slots_same b node keys at content j (omega (arith, l, n)) (omega (arith, o))),
            (
              (λ j l o n. only_long a z b 80 (e.protection_field ∙ sym e'.protection_field) j l o),
              (
                (λ j l o n. dates_same b 105 node.date h.date h'.date j l o),
                (
                  (λ j l o n. ends_same j l o),
                  ((λ j l o n. only_long a z b 127 (e.secondary ∙ sym e'.secondary) j l o), tt),
                ),
              ),
            ),
          ),
        )

        rest : (i : ℕ) → i < 512 → ¬ InLongs directory_runs i → byte_at a b i ≡ byte_at z b i
        rest i l n = entry_rest i l (λ x. n) (λ x. absurd (omega (arith, typed, x))) (λ x. n) (λ x. absurd (omega (arith, typed', x)))

    file_bytes : (bytes : List ℕ) → node.content ≡ File bytes → (i : ℕ) → i < 512 → byte_at a b i ≡ byte_at z b i
    file_bytes bytes content = block_bytes a z b ia iz h.sum h'.sum (file_runs (pointer_count a b)) told rest
      where
        f : HasFile a u.format b (ra.layout.file_data b) (ra.layout.extensions b) bytes
        f = ra.files b node bytes at content

        g : HasFile z u.format b (rz.layout.file_data b) (rz.layout.extensions b) bytes
        g = rz.files b node bytes at content

        pointers : (long a b 2 ≡ long z b 2) × ((j : ℕ) → 78 - long a b 2 ≤ j → j ≤ 77 → long a b j ≡ long z b j)
        pointers = pointers_same b node bytes at content 0 b (omega arith) refl

        typed : secondary_type a b ≡ FILE_TYPE
        typed = e.secondary ∙ ap type_of content

        typed' : secondary_type z b ≡ FILE_TYPE
        typed' = e'.secondary ∙ ap type_of content

        front : (j : ℕ) → 0 ≤ j → j ≤ 2 → long a b j ≡ long z b j
        front j l o = elim (cases_eq j 2) [ inl x ↦ ap (long a b) x ∙ pointers.0 ∙ ap (long z b) (sym x) | inr n ↦ heads_same j l (omega (arith, o, n)) ]

        sizes : (j : ℕ) → 80 ≤ j → j ≤ 81 → long a b j ≡ long z b j
        sizes j l o = elim (cases_eq j 80) [
          | inl x ↦ ap (long a b) x ∙ e.protection_field ∙ sym e'.protection_field ∙ ap (long z b) (sym x)
          | inr n ↦ only_long a z b 81 (f.size ∙ sym g.size) j (omega (arith, l, n)) o
        ]

        chained : long a b NEXT_EXTENSION ≡ long z b NEXT_EXTENSION
        chained =
            chain_head a NEXT_EXTENSION (long a b NEXT_EXTENSION) (ra.layout.extensions b) f.chain
            ∙ ap (λ (xs : List ℕ). slice_index xs 0) (extensions_same b)
            ∙ sym (chain_head z NEXT_EXTENSION (long z b NEXT_EXTENSION) (rz.layout.extensions b) g.chain)

        tail : (j : ℕ) → 124 ≤ j → j ≤ 127 → long a b j ≡ long z b j
        tail j l o = elim (cases_lt j 126) [
          | inl low ↦ ends_same j l (omega (arith, low))
          | inr high ↦ elim (cases_eq j 126) [
            | inl x ↦ ap (long a b) x ∙ chained ∙ ap (long z b) (sym x)
            | inr n ↦ only_long a z b 127 (e.secondary ∙ sym e'.secondary) j (omega (arith, high, n)) o
          ]
        ]

        told : AllByRecursion (λ (run : ℕ × ℕ). (j : ℕ) → run.0 ≤ j → j ≤ run.1 → j ≢ 5 → long a b j ≡ long z b j) (file_runs (pointer_count a b))
        told = (
          (λ j l o n. front j l o),
          (
            (λ j l o n. only_long a z b 4 (first_same dir r k b m node bytes at content) j l (omega (arith, o, n))),
            (
              (λ j l o n. pointers.1 j l o),
              (
                (λ j l o n. sizes j l o),
                (
                  (λ j l o n. dates_same b 105 node.date h.date h'.date j l o),
                  ((λ j l o n. tail j l o), tt),
                ),
              ),
            ),
          ),
        )

        rest : (i : ℕ) → i < 512 → ¬ InLongs (file_runs (pointer_count a b)) i → byte_at a b i ≡ byte_at z b i
        rest i l n =
            entry_rest i l (λ x. absurd (omega (arith, typed, x))) (λ x. n) (λ x. absurd (omega (arith, typed', x)))
            (λ x w. n (subst (λ (c : ℕ). InLongs (file_runs c) i) (sym pointers.0) w))

    node_bytes : (i : ℕ) → i < 512 → byte_at a b i ≡ byte_at z b i
    node_bytes = go node.content refl
      where
        go : (c : Content) → node.content ≡ c → (i : ℕ) → i < 512 → byte_at a b i ≡ byte_at z b i
        go (Directory keys) c = directory_bytes keys c
        go (File bytes) c = file_bytes bytes c

  -- ---- extension blocks

  extension_bytes : (file q b : ℕ) → StandsAt a u ra (roles.Extension file) q b → (i : ℕ) → i < 512 → byte_at a b i ≡ byte_at z b i
  extension_bytes file q b m = block_bytes a z b ia iz h.sum h'.sum (extension_runs (pointer_count a b)) told rest
    where
      o : IsFileNode a u ra file
      o = m.holder

      f : HasFile a u.format file (ra.layout.file_data file) (ra.layout.extensions file) o.bytes
      f = ra.files file o.node o.bytes o.at o.content

      g : HasFile z u.format file (rz.layout.file_data file) (rz.layout.extensions file) o.bytes
      g = rz.files file o.node o.bytes o.at o.content

      m' : StandsAt z u rz (roles.Extension file) q b
      m' = over (roles.Extension file) q b m

      h : HasExtension a file b
      h = subst (HasExtension a file) m.here (f.extension q m.within)

      h' : HasExtension z file b
      h' = subst (HasExtension z file) m'.here (g.extension q m'.within)

      pointers : (long a b 2 ≡ long z b 2) × ((j : ℕ) → 78 - long a b 2 ≤ j → j ≤ 77 → long a b j ≡ long z b j)
      pointers = pointers_same file o.node o.bytes o.at o.content (suc q) b (omega (arith, m.within)) m.here

      next : long a b NEXT_EXTENSION ≡ long z b NEXT_EXTENSION
      next =
          ap (λ (c : ℕ). long a c NEXT_EXTENSION) (sym m.here)
          ∙ next_of a NEXT_EXTENSION (long a file NEXT_EXTENSION) (ra.layout.extensions file) f.chain q m.within
          ∙ ap (λ (xs : List ℕ). slice_index xs (suc q)) (extensions_same file)
          ∙ sym (next_of z NEXT_EXTENSION (long z file NEXT_EXTENSION) (rz.layout.extensions file) g.chain q m'.within)
          ∙ ap (λ (c : ℕ). long z c NEXT_EXTENSION) m'.here

      front : (j : ℕ) → 0 ≤ j → j ≤ 2 → long a b j ≡ long z b j
      front j l x = elim (cases_eq j 0) [
        | inl y ↦ ap (long a b) y ∙ h.primary ∙ sym h'.primary ∙ ap (long z b) (sym y)
        | inr n ↦ elim (cases_eq j 1) [
          | inl y ↦ ap (long a b) y ∙ h.key_field ∙ sym h'.key_field ∙ ap (long z b) (sym y)
          | inr p ↦ only_long a z b 2 pointers.0 j (omega (arith, n, p)) x
        ]
      ]

      tail : (j : ℕ) → 125 ≤ j → j ≤ 127 → long a b j ≡ long z b j
      tail j l x = elim (cases_eq j 125) [
        | inl y ↦ ap (long a b) y ∙ h.parent ∙ sym h'.parent ∙ ap (long z b) (sym y)
        | inr n ↦ elim (cases_eq j 126) [
          | inl y ↦ ap (long a b) y ∙ next ∙ ap (long z b) (sym y)
          | inr p ↦ only_long a z b 127 (h.secondary ∙ sym h'.secondary) j (omega (arith, l, n, p)) x
        ]
      ]

      told : AllByRecursion (λ (run : ℕ × ℕ). (j : ℕ) → run.0 ≤ j → j ≤ run.1 → j ≢ 5 → long a b j ≡ long z b j) (extension_runs (pointer_count a b))
      told = ((λ j l x n. front j l x), ((λ j l x n. absurd (n (omega (arith, l, x)))), ((λ j l x n. pointers.1 j l x), ((λ j l x n. tail j l x), tt))))

      rest : (i : ℕ) → i < 512 → ¬ InLongs (extension_runs (pointer_count a b)) i → byte_at a b i ≡ byte_at z b i
      rest i l n = loose (roles.Extension file) q b i m l (no_extension_field a b i file n) (no_extension_field z b i file (λ w. n (subst (λ (c : ℕ). InLongs (extension_runs c) i) (sym pointers.0) w)))

  -- ---- data blocks

  module _ (file q b : ℕ) (m : StandsAt a u ra (roles.Data file) q b) where
    o : IsFileNode a u ra file
    o = m.holder

    o' : IsFileNode z u rz file
    o' = record { node = o.node; bytes = o.bytes; at = o.at; content = o.content }

    f : HasFile a u.format file (ra.layout.file_data file) (ra.layout.extensions file) o.bytes
    f = ra.files file o.node o.bytes o.at o.content

    g : HasFile z u.format file (rz.layout.file_data file) (rz.layout.extensions file) o.bytes
    g = rz.files file o.node o.bytes o.at o.content

    m' : StandsAt z u rz (roles.Data file) q b
    m' = over (roles.Data file) q b m

    -- a byte of the file
    held_same : (i k : ℕ) → k < length o.bytes → k / data_size u.format ≡ q → data_start u.format + k % data_size u.format ≡ i → byte_at a b i ≡ byte_at z b i
    held_same i k l e p =
        sym (ap₂ (λ (c x : ℕ). byte_at a c x) (ap (slice_index (ra.layout.file_data file)) e ∙ m.here) p) ∙ sym (f.contents k l)
        ∙ g.contents k l ∙ ap₂ (λ (c x : ℕ). byte_at z c x) (ap (slice_index (rz.layout.file_data file)) e ∙ m'.here) p

    ofs_bytes : u.format ≡ Ofs → (i : ℕ) → i < 512 → byte_at a b i ≡ byte_at z b i
    ofs_bytes ofs = block_bytes a z b ia iz h.sum h'.sum ((0, 5) ∷ []) (told, tt) rest
      where
        h : HasOfsData a file (length o.bytes) q b
        h = subst (HasOfsData a file (length o.bytes) q) m.here (f.ofs_data ofs q m.within)

        h' : HasOfsData z file (length o.bytes) q b
        h' = subst (HasOfsData z file (length o.bytes) q) m'.here (g.ofs_data ofs q m'.within)

        next : long a b NEXT_DATA ≡ long z b NEXT_DATA
        next =
            ap (λ (c : ℕ). long a c NEXT_DATA) (sym m.here)
            ∙ next_of a NEXT_DATA (long a file NEXT_DATA) (ra.layout.file_data file) (f.ofs_chain ofs) q m.within
            ∙ ap (λ (xs : List ℕ). slice_index xs (suc q)) (blocks_same file)
            ∙ sym (next_of z NEXT_DATA (long z file NEXT_DATA) (rz.layout.file_data file) (g.ofs_chain ofs) q m'.within)
            ∙ ap (λ (c : ℕ). long z c NEXT_DATA) m'.here

        told : (j : ℕ) → 0 ≤ j → j ≤ 5 → j ≢ 5 → long a b j ≡ long z b j
        told zero l x n = h.primary ∙ sym h'.primary
        told (suc zero) l x n = h.header ∙ sym h'.header
        told (suc (suc zero)) l x n = h.sequence ∙ sym h'.sequence
        told (suc (suc (suc zero))) l x n = h.held ∙ sym h'.held
        told (suc (suc (suc (suc zero)))) l x n = next
        told (suc (suc (suc (suc (suc j))))) l x n = absurd (n (omega (arith, x)))

        rest : (i : ℕ) → i < 512 → ¬ InLongs ((0, 5) ∷ []) i → byte_at a b i ≡ byte_at z b i
        rest i l n =
            let past : 24 ≤ i = elim (cases_lt i 24) [ inl low ↦ absurd (n (0, (0, 5), omega arith, refl, (omega arith, omega (arith, low)))) | inr high ↦ high ] in
            elim (cases_lt i (24 + held_count a b)) [
              | inl within ↦
                  held_same i (488 * q + (i - 24)) (omega (arith, within, past, h.held))
                  (subst (λ (x : Format). (488 * q + (i - 24)) / data_size x ≡ q) (sym ofs) (omega (arith, l, past)))
                  (subst (λ (x : Format). data_start x + (488 * q + (i - 24)) % data_size x ≡ i) (sym ofs) (omega (arith, l, past)))
              | inr after ↦
                  loose (roles.Data file) q b i m l (no_data_field a b i file (ofs_image a u ra ofs) n after)
                  (no_data_field z b i file (ofs_image z u rz ofs) n (omega (arith, after, h.held, h'.held)))
            ]

    -- a byte after the file's end
    slack_same : u.format ≡ Ffs → (i : ℕ) → i < 512 → length o.bytes ≤ 512 * q + i → byte_at a b i ≡ byte_at z b i
    slack_same ffs i l past = elim (cases_Bool (has_free_bit old b)) [
      | inl free ↦
          zero_in a (data_at a file q) here (ka.lowest.zero_end file q i (key_of a u ra file o) (subst (IsTaken old a) (sym here) (taken_first (roles.Data file) q b m free)) behind)
          ∙ sym (zero_in z (data_at z file q) there (kz.lowest.zero_end file q i (key_of z u rz file o') (subst (IsTaken old z) (sym there) (taken_second (roles.Data file) q b m free)) behind'))
      | inr used ↦ elim (ka.uses t u s ra b (Duty.Data file q) (serves_at a u ra (roles.Data file) q b m)) [
        | inr free ↦ absurd (false≢true (sym used ∙ free))
        | inl kept ↦
            let before = slice_get-back (s.layout.file_data file) q b kept in
            let c = file_with old t s true file q before.0 in
            let has : HasData old file q = subst (λ (xs : List ℕ). q < length xs) (sym (data_of old t s file c)) before.0 in
            let x = (ka.untold.file_ends file (key_of old t s file c) (key_of a u ra file o)).stays q i has behind in
            let y = (kz.untold.file_ends file (key_of old t s file c) (key_of z u rz file o')).stays q i has behind' in
            ap (λ (d : ℕ). byte_at a d i) (sym here) ∙ x ∙ sym y ∙ ap (λ (d : ℕ). byte_at z d i) there
      ]
    ]
      where
        here : data_at a file q ≡ b
        here = ap (λ (xs : List ℕ). slice_index xs q) (data_of a u ra file o) ∙ m.here

        there : data_at z file q ≡ b
        there = ap (λ (xs : List ℕ). slice_index xs q) (data_of z u rz file o') ∙ m'.here

        zero_in : (image : List ℕ) (c : ℕ) → c ≡ b → byte_at image c i ≡ 0 → byte_at image b i ≡ 0
        zero_in image c same is = ap (λ (d : ℕ). byte_at image d i) (sym same) ∙ is

        behind : IsBehindEnd a file q i
        behind = record {
          block = subst (λ (xs : List ℕ). q < length xs) (sym (data_of a u ra file o)) m.within;
          byte = l;
          behind = subst (λ (x : Format). file_size a file + data_start x ≤ data_size x * q + i) (sym (format_is a u ra ∙ ffs)) (omega (arith, past, f.size));
        }

        behind' : IsBehindEnd z file q i
        behind' = record {
          block = subst (λ (xs : List ℕ). q < length xs) (sym (data_of z u rz file o')) m'.within;
          byte = l;
          behind = subst (λ (x : Format). file_size z file + data_start x ≤ data_size x * q + i) (sym (format_is z u rz ∙ ffs)) (omega (arith, past, g.size));
        }

    ffs_bytes : u.format ≡ Ffs → (i : ℕ) → i < 512 → byte_at a b i ≡ byte_at z b i
    ffs_bytes ffs i l = elim (cases_lt (512 * q + i) (length o.bytes)) [
      | inl within ↦
          held_same i (512 * q + i) within (subst (λ (x : Format). (512 * q + i) / data_size x ≡ q) (sym ffs) (omega (arith, l)))
          (subst (λ (x : Format). data_start x + (512 * q + i) % data_size x ≡ i) (sym ffs) (omega (arith, l)))
      | inr past ↦ slack_same ffs i l past
    ]

    data_bytes : (i : ℕ) → i < 512 → byte_at a b i ≡ byte_at z b i
    data_bytes = go u.format refl
      where
        go : (x : Format) → u.format ≡ x → (i : ℕ) → i < 512 → byte_at a b i ≡ byte_at z b i
        go Ofs e = ofs_bytes e
        go Ffs e = ffs_bytes e

  -- ---- all blocks

  used_bytes : (b : ℕ) (duty : Duty) → HasDuty u ra.layout b duty → (i : ℕ) → i < 512 → byte_at a b i ≡ byte_at z b i
  used_bytes b (Duty.Page p) serves = let at = slice_get-back ra.layout.pages p b serves in page_bytes p b (record { within = at.0; here = at.1; holder = tt })
  used_bytes b Duty.Key serves =
      let n = some_in (u.nodes b) serves in
      elim (root_or_parent u ra.proper b n.0 n.1) [
        | inl e ↦ subst (λ (c : ℕ). (i : ℕ) → i < 512 → byte_at a c i ≡ byte_at z c i) (sym e) root_bytes
        | inr up ↦ let place = entry_stands a u ra b up.0 n.0 n.1 up.1 in node_bytes up.0 (slot n.0.name) place.0 b place.1 n.0 n.1 up.1
      ]
  used_bytes b (Duty.Data file q) serves =
      let at = slice_get-back (ra.layout.file_data file) q b serves in
      data_bytes file q b (record { within = at.0; here = at.1; holder = file_with a u ra true file q at.0 })
  used_bytes b (Duty.Extension file q) serves =
      let at = slice_get-back (ra.layout.extensions file) q b serves in
      extension_bytes file q b (record { within = at.0; here = at.1; holder = file_with a u ra false file q at.0 })
  used_bytes b Duty.Lost serves = λ i l.
      let bytes = lost_in (u.lost b) serves in
      let here : 0 + i ≡ i = omega arith in
      ap (byte_at a b) (sym here) ∙ sym (byte-bytes_at a b 0 512 i l) ∙ ap (λ (xs : List ℕ). slice_index xs i) (ra.lost b bytes.0 bytes.1 ∙ sym (rz.lost b bytes.0 bytes.1))
      ∙ byte-bytes_at z b 0 512 i l ∙ ap (byte_at z b) here
    where
      lost_in : (o : Option (List ℕ)) → IsSome o → (bytes : List ℕ) × (o ≡ Some bytes)
      lost_in None m = absurd (false≢true m)
      lost_in (Some bytes) m = (bytes, refl)

  block_same : (b i : ℕ) → IsInside (block_count a) b → i < 512 → byte_at a b i ≡ byte_at z b i
  block_same b i within l = elim (cases_Bool (has_free_bit a b)) [
    | inl free ↦ ka.freed b old_inside free i l ∙ sym (kz.freed b old_inside (sym (mark_same b (bit_of_inside a b within)) ∙ free) i l)
    | inr used ↦
        let named = ra.marked_used b (within.0, omega (arith, within.1, count_same a u ra)) (λ f. false≢true (sym used ∙ f)) in
        used_bytes b named.0 named.1 i l
  ]
    where
      old_inside : InImage old b
      old_inside = (within.0, omega (arith, within.1, count_old))

  all_same : a ≡ z
  unfolding byte_at
  all_same = ext_get_or 0 a z (ka.kept.size ∙ sym kz.kept.size) (λ k l. elim (cases_lt k 1024) [
    | inl boot ↦ start k boot
    | inr past ↦
        let here : 512 * (k / 512) + k % 512 ≡ k = omega arith in
        ap (slice_index a) (sym here) ∙ at_block (k / 512) (k % 512) (omega (arith, past), omega (arith, l, ra.whole)) (omega arith) ∙ ap (slice_index z) here
  ])
    where
      start : (k : ℕ) → k < 1024 → slice_index a k ≡ slice_index z k
      start k l =
          let here : 512 * 0 + (0 + k) ≡ k = omega arith in
          ap (slice_index a) (sym here)
          ∙ sym (byte-bytes_at a 0 0 1024 k l) ∙ ap (λ (xs : List ℕ). slice_index xs k) (ka.kept.boot ∙ sym kz.kept.boot) ∙ byte-bytes_at z 0 0 1024 k l
          ∙ ap (slice_index z) here

      at_block : (b i : ℕ) → IsInside (block_count a) b → i < 512 → slice_index a (512 * b + i) ≡ slice_index z (512 * b + i)
      at_block b i within l = block_same b i within l

pub same_rest_same_bytes : SameRestSameBytes
same_rest_same_bytes t u old new other s one was r q k l = all_same old other new t u s one q r l k (l.bytes was) (k.bytes was)
