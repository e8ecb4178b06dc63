-- A rewritten file leaves all bytes outside fields untouched, takes the lowest free blocks for its new ones, and leaves
-- free blocks untouched.
use Rattle.ados_change.proofs.Common.{is_some, ◌≡◌, ℕ, ◌+◌, ◌-◌, ◌*◌, ◌/◌, ◌<◌, ◌≤◌, inl, inr, min, List, length, slice_index, Some, refl, sym, ap, ◌∙◌, subst, arith, eq-eqb, ◌⊎◌, take, drop, ◌≢◌, zero, suc, true, false, ◌∷◌, ne_eqb, cases_eq, cases_lt, false≢true, Format, Ofs, Ffs, byte_at, has_free_bit, pointer_count, held_count, file_size, secondary_type, format_of, FILE_TYPE, boot_same, Layout, Stands, type_of, KeepsUnnamed, IsPointerField, IsHeaderField, data_end, Node, Tree, File, Role, IsFile, IsOfs, Kept, IsField, Alike, KeepsFirstData, page_longs, file_longs, extension_longs, ofs_data_longs, ofs_data, ffs_data, StandsAt, reached_stands, serves_at, duty_of, root_at, entry_at, get_or-take, get_or_past, Duty, pointers_of, IsFileNode, slice_get-index, cases_order, false_from_ne_true, IsInside, block_count, HasFreeBit, page_block, data_blocks, extension_blocks, RisesBehind, data_blocks_are, extension_blocks_are, IsExtensionField, HasDuty, InImage, HasFileKey, IsTaken, TakenInTurn, TakenRise, TakesLowest, InTurn, IsBehindEnd, KeepsUses, data_at, Bool, cond, ◌==◌, slice_get, slice_get-back, KeepsKinds, option_map}
use Rattle.ados_change.proofs.Writable.{data_is, named_used, page_serves}
use Rattle.ados_change.proofs.BytesUntold.{file_end}
use Rattle.ados_change.proofs.Uses.{has_key, uses_of}
use Rattle.ados_change.proofs.FilesStay.{data_serves, extension_serves, file_of_key}
use Rattle.ados_change.proofs.Keeping.{header_stays}
use Rattle.ados_change.proofs.Changed.{changed_keeps, each_keeps}
use Rattle.ados_change.proofs.Contents.{refilled, holding, here, there}
use Rattle.ados_change.proofs.Relaid.{ComesFrom, IsRewritten, relaid, IsIn, serves_data, serves_extension}
use Rattle.ados_change.proofs.Unchanged.{long_as}
use Rattle.ados_change.proofs.Refilled.{boot_stays, key_stays, root_stays, data_stays, extension_stays, stands_after, layout_after}
use Rattle.ados_model.proofs.FileBlocks.{pointers_are}
use Rattle.ados_model.specs.declared.role.Role.TheVariants as roles

-- ---- fields

module _ (image : List ℕ) (b : ℕ) where
  -- a long that a change of a header may write is a field
  header_field : secondary_type image b ≡ FILE_TYPE → (dir r i : ℕ) → IsHeaderField (pointer_count image b) (i / 4) → IsField image b (roles.Entry dir r) i
  header_field e dir r i (inl (inl z)) = file_longs e (0, (0, 2), omega arith, refl, (omega (arith, z), omega (arith, z)))
  header_field e dir r i (inl (inr (inl z))) = file_longs e (1, (4, 5), omega arith, refl, (omega (arith, z), omega (arith, z)))
  header_field e dir r i (inl (inr (inr (inl z)))) = file_longs e (2, (78 - pointer_count image b, 77), omega arith, refl, (omega (arith, z.0), omega (arith, z.1)))
  header_field e dir r i (inl (inr (inr (inr z)))) = file_longs e (5, (124, 127), omega arith, refl, (omega (arith, z), omega (arith, z)))
  header_field e dir r i (inr (inl z)) = file_longs e (1, (4, 5), omega arith, refl, (omega (arith, z), omega (arith, z)))
  header_field e dir r i (inr (inr z)) = file_longs e (3, (80, 81), omega arith, refl, (omega (arith, z), omega (arith, z)))

  -- a long that a change of an extension block may write is a field
  extension_field : (f i : ℕ) → IsPointerField (pointer_count image b) (i / 4) → IsField image b (roles.Extension f) i
  extension_field f i (inl z) = extension_longs (0, (0, 2), omega arith, refl, (omega (arith, z), omega (arith, z)))
  extension_field f i (inr (inl z)) = extension_longs (1, (5, 5), omega arith, refl, (omega (arith, z), omega (arith, z)))
  extension_field f i (inr (inr (inl z))) = extension_longs (2, (78 - pointer_count image b, 77), omega arith, refl, (omega (arith, z.0), omega (arith, z.1)))
  extension_field f i (inr (inr (inr z))) = extension_longs (3, (125, 127), omega arith, refl, (omega (arith, z), omega (arith, z)))

-- a byte outside the fields of an OFS data block is after its data
data_field : (image : List ℕ) (b f i : ℕ) → IsOfs image → ¬ IsField image b (roles.Data f) i → 24 + held_count image b ≤ i
data_field image b f i ofs n = elim (cases_lt i 24) [
  | inl l ↦ absurd (n (ofs_data_longs ofs (0, (0, 5), omega arith, refl, (omega arith, omega (arith, l)))))
  | inr l ↦ elim (cases_lt i (24 + held_count image b)) [
    | inl m ↦ absurd (n (ofs_data ofs l m))
    | inr m ↦ m
  ]
]

-- OFS by the byte after `DOS`
is_ofs : (image : List ℕ) → format_of image ≡ Ofs → IsOfs image
is_ofs image e = go (byte_at image 0 3) refl e
  where
    go : (n : ℕ) → byte_at image 0 3 ≡ n → format_of image ≡ Ofs → byte_at image 0 3 ≡ 0
    go n is e = elim (cases_eq (byte_at image 0 3) 0) [
      | inl z ↦ z
      | inr m ↦ absurd (let other : Format.Ffs ≡ Ofs = sym (rw (ne_eqb (byte_at image 0 3) 0 m) refl) ∙ e in cc other)
    ]

is_ffs : (image : List ℕ) → format_of image ≡ Ffs → ¬ IsOfs image
is_ffs image e z = let other : Format.Ofs ≡ Ffs = sym (rw (eq-eqb (byte_at image 0 3) 0 z) refl) ∙ e in cc other

-- the first data block of a file is the first pointer of its header
pub first_pointer : (image : List ℕ) (t : Tree) (s : Stands image t) (file : ℕ) → IsFileNode image t s file → slice_index (pointers_of image file) 0 ≡ slice_index (s.layout.file_data file) 0
first_pointer image t s file f =
    let all : drop (72 * 0) (s.layout.file_data file) ≡ s.layout.file_data file = refl in
    ap (λ (xs : List ℕ). slice_index xs 0) (pointers_are image t.format file (s.layout.file_data file) (s.layout.extensions file) f.bytes (s.files file f.node f.bytes f.at f.content) 0 (omega arith) ∙ ap (take 72) all) ∙ get_or-take 72 (s.layout.file_data file) 0 0 (omega arith)

module _ (old new : List ℕ) (t : Tree) (s : Stands old t) (file : ℕ) (node : Node) (bytes : List ℕ) (found : t.nodes file ≡ Some node) (is_file : node.content ≡ File bytes)
    (blocks' extensions' bytes' : List ℕ) (h : IsRewritten old file (s.layout.file_data file) (s.layout.extensions file) new blocks' extensions' bytes')
    (keeps : KeepsUnnamed old file (s.layout.file_data file) (s.layout.extensions file) new blocks' extensions') where
  abbrev v : Tree
  v = refilled file bytes' t

  abbrev after : Stands new v
  after = stands_after old new t s file node bytes found is_file blocks' extensions' bytes' h

  layout_is : after.layout ≡ relaid s.layout file blocks' extensions'
  layout_is = layout_after old new t s file node bytes found is_file blocks' extensions' bytes' h

  -- ---- the header

  -- an entry that is the file has its type
  new_type : (k dir r : ℕ) → StandsAt new v after (roles.Entry dir r) k file → secondary_type new file ≡ FILE_TYPE
  new_type k dir r m =
      let n = entry_at new v after dir r k file m in
      let is : n.node ≡ holding bytes' node = cc (n.at, here t file node bytes bytes' found is_file) in
      (after.entries file dir n.node n.at n.parent).secondary ∙ ap type_of (ap (λ (a : Node). a.content) is)

  entry_kept : (k k' dir r dir' r' block i : ℕ) → i < 512 → StandsAt old t s (roles.Entry dir r) k block → StandsAt new v after (roles.Entry dir' r') k' block → ¬ IsField new block (roles.Entry dir' r') i → byte_at new block i ≡ byte_at old block i
  entry_kept k k' dir r dir' r' block i l m m' n = elim (cases_eq block file) [
    | inr other ↦ let e = entry_at old t s dir r k block m in (key_stays old new t s file node bytes found is_file blocks' extensions' bytes' h block e.node e.at other).bytes i l (λ z. z)
    | inl same ↦
        let at = subst (StandsAt new v after (roles.Entry dir' r') k') same m' in
        let none : ¬ IsHeaderField (pointer_count new file) (i / 4) = λ w. n (subst (λ (b : ℕ). IsField new b (roles.Entry dir' r') i) (sym same) (header_field new file (new_type k' dir' r' at) dir' r' i w)) in
        ap (λ (b : ℕ). byte_at new b i) same ∙ keeps.header i l none ∙ ap (λ (b : ℕ). byte_at old b i) (sym same)
  ]

  -- ---- data blocks

  -- a byte of a block outside all fields is after the file's bytes in it
  behind_bytes : (j f block i : ℕ) → j < length blocks' → slice_index blocks' j ≡ block → ¬ IsField new block (roles.Data f) i → data_end (format_of old) (file_size new file) j ≤ i
  behind_bytes j f block i l e n = go (format_of old) refl
    where
      go : (g : Format) → format_of old ≡ g → data_end g (file_size new file) j ≤ i
      go Ffs is = absurd (n (ffs_data (is_ffs new (h.format ∙ is))))
      go Ofs is =
          let a = data_field new block f i (is_ofs new (h.format ∙ is)) n in
          let held : held_count new block ≡ min 488 (length bytes' - 488 * j) = ap (held_count new) (sym e) ∙ (h.writable.lawful.holds.ofs_data (h.format ∙ is) j l).held in
          omega (arith, a, held, h.writable.lawful.holds.size)

  data_kept : (k k' f f' block i : ℕ) → i < 512 → StandsAt old t s (roles.Data f) k block → StandsAt new v after (roles.Data f') k' block → ¬ IsField new block (roles.Data f') i → byte_at new block i ≡ byte_at old block i
  data_kept k k' f f' block i l m m' n = elim (cases_eq f' file) [
    | inr other ↦
        let lists : after.layout.file_data f' ≡ s.layout.file_data f' = ap (λ (l : Layout). l.file_data f') layout_is ∙ rw (ne_eqb f' file other) refl in
        let within : k' < length (s.layout.file_data f') = subst (λ (xs : List ℕ). k' < length xs) lists m'.within in
        let at : slice_index (s.layout.file_data f') k' ≡ block = ap (λ (xs : List ℕ). slice_index xs k') (sym lists) ∙ m'.here in
        ap (λ (b : ℕ). byte_at new b i) (sym at) ∙ (data_stays old new t s file node bytes found is_file blocks' extensions' bytes' h f' k' other within).bytes i l (λ z. z) ∙ ap (λ (b : ℕ). byte_at old b i) at
    | inl same ↦
        let lists : after.layout.file_data f' ≡ blocks' = ap (λ (l : Layout). l.file_data f') layout_is ∙ rw (eq-eqb f' file same) refl in
        let within : k' < length blocks' = subst (λ (xs : List ℕ). k' < length xs) lists m'.within in
        let at : slice_index blocks' k' ≡ block = ap (λ (xs : List ℕ). slice_index xs k') (sym lists) ∙ m'.here in
        elim (h.data_from k' within) [
          | inl was ↦
              let behind = behind_bytes k' f' block i within at n in
              ap (λ (b : ℕ). byte_at new b i) (sym at) ∙ keeps.slack k' i was.0 within l behind ∙ ap (λ (b : ℕ). byte_at old b i) at
          | inr free ↦ absurd (false≢true (sym (named_used old t s block (duty_of old t s (roles.Data f) k) (serves_at old t s (roles.Data f) k block m)) ∙ ap (has_free_bit old) (sym at) ∙ free.1))
        ]
  ]

  -- ---- extension blocks

  extension_kept : (k k' f f' block i : ℕ) → i < 512 → StandsAt old t s (roles.Extension f) k block → StandsAt new v after (roles.Extension f') k' block → ¬ IsField new block (roles.Extension f') i → byte_at new block i ≡ byte_at old block i
  extension_kept k k' f f' block i l m m' n = elim (cases_eq f' file) [
    | inr other ↦
        let lists : after.layout.extensions f' ≡ s.layout.extensions f' = ap (λ (l : Layout). l.extensions f') layout_is ∙ rw (ne_eqb f' file other) refl in
        let within : k' < length (s.layout.extensions f') = subst (λ (xs : List ℕ). k' < length xs) lists m'.within in
        let at : slice_index (s.layout.extensions f') k' ≡ block = ap (λ (xs : List ℕ). slice_index xs k') (sym lists) ∙ m'.here in
        ap (λ (b : ℕ). byte_at new b i) (sym at) ∙ (extension_stays old new t s file node bytes found is_file blocks' extensions' bytes' h f' k' other within).bytes i l (λ z. z) ∙ ap (λ (b : ℕ). byte_at old b i) at
    | inl same ↦
        let lists : after.layout.extensions f' ≡ extensions' = ap (λ (l : Layout). l.extensions f') layout_is ∙ rw (eq-eqb f' file same) refl in
        let within : k' < length extensions' = subst (λ (xs : List ℕ). k' < length xs) lists m'.within in
        let at : slice_index extensions' k' ≡ block = ap (λ (xs : List ℕ). slice_index xs k') (sym lists) ∙ m'.here in
        elim (h.extensions_from k' within) [
          | inl was ↦
              let none : ¬ IsPointerField (pointer_count new (slice_index extensions' k')) (i / 4) = λ w. n (subst (λ (b : ℕ). IsField new b (roles.Extension f') i) at (extension_field new (slice_index extensions' k') f' i w)) in
              ap (λ (b : ℕ). byte_at new b i) (sym at) ∙ keeps.extension k' i was.0 within l none ∙ ap (λ (b : ℕ). byte_at old b i) at
          | inr free ↦ absurd (false≢true (sym (named_used old t s block (duty_of old t s (roles.Extension f) k) (serves_at old t s (roles.Extension f) k block m)) ∙ ap (has_free_bit old) (sym at) ∙ free.1))
        ]
  ]

  -- ---- all blocks

  block_kept : (k k' block i : ℕ) (role role' : Role) → i < 512 → StandsAt old t s role k block → StandsAt new v after role' k' block → Alike role role' → ¬ IsField new block role' i → byte_at new block i ≡ byte_at old block i
  block_kept k k' block i roles.Root roles.Root l m m' alike n =
      let at = root_at old t s k block m in
      ap (λ (b : ℕ). byte_at new b i) at ∙ (root_stays old new t s file node bytes found is_file blocks' extensions' bytes' h).bytes i l (λ z. z) ∙ ap (λ (b : ℕ). byte_at old b i) (sym at)
  block_kept k k' block i roles.Page roles.Page l m m' alike n = absurd (n (page_longs (0, (0, 127), omega arith, refl, (omega arith, omega (arith, l)))))
  block_kept k k' block i (roles.Entry dir r) (roles.Entry dir' r') l m m' alike n = entry_kept k k' dir r dir' r' block i l m m' n
  block_kept k k' block i (roles.Data f) (roles.Data f') l m m' alike n = data_kept k k' f f' block i l m m' n
  block_kept k k' block i (roles.Extension f) (roles.Extension f') l m m' alike n = extension_kept k k' f f' block i l m m' n
  block_kept k k' block i _ _ l m m' alike n = absurd alike

  -- ---- the first data block in the header

  first_old : slice_index (pointers_of old file) 0 ≡ slice_index (s.layout.file_data file) 0
  first_old = first_pointer old t s file (record { node = node; bytes = bytes; at = found; content = is_file })

  first_new : slice_index (pointers_of new file) 0 ≡ slice_index blocks' 0
  first_new =
      first_pointer new (refilled file bytes' t) after file (record { node = holding bytes' node; bytes = bytes'; at = here t file node bytes bytes' found is_file; content = refl })
      ∙ ap (λ (l : Layout). slice_index (l.file_data file) 0) layout_is
      ∙ rw (eq-eqb file file refl) refl

  -- the long is unchanged if the first data block is; a new first block, or none, is written
  keeps_first : KeepsFirstData old new file
  keeps_first = elim (cases_eq (length (s.layout.file_data file)) 0) [
    | inl none ↦
        let past = get_or_past (s.layout.file_data file) 0 0 (omega (arith, none)) in
        elim (cases_eq (length blocks') 0) [
          | inl still ↦ unchanged (inl (none, still)) (get_or_past blocks' 0 0 (omega (arith, still)) ∙ sym past)
          | inr some ↦ record {
            same = λ e. let inside = h.writable.lawful.places.data_inside 0 (omega (arith, some)) in let zero = sym first_new ∙ e ∙ first_old ∙ past in absurd (omega (arith, inside.0, zero));
            other = λ n. keeps.first_taken none (omega (arith, some)) ∙ sym first_new;
          }
        ]
    | inr some ↦ elim (cases_eq (length blocks') 0) [
      | inl gone ↦
          let past = get_or_past blocks' 0 0 (omega (arith, gone)) in
          record {
            same = λ e.
                let inside = s.fits.inside (slice_index (s.layout.file_data file) 0) (Duty.Data file 0) (slice_get-index (s.layout.file_data file) 0 (omega (arith, some))) in
                let zero = sym first_old ∙ sym e ∙ first_new ∙ past in
                absurd (omega (arith, inside.0, zero));
            other = λ n. keeps.first_given (omega (arith, some)) gone ∙ sym past ∙ sym first_new;
          }
      | inr still ↦ unchanged (inr (omega (arith, some), omega (arith, still))) (elim (h.data_from 0 (omega (arith, still))) [ inl same ↦ same.1 | inr free ↦ absurd (omega (arith, some, free.0)) ])
    ]
  ]
    where
      unchanged : ((length (s.layout.file_data file) ≡ 0) × (length blocks' ≡ 0)) ⊎ ((0 < length (s.layout.file_data file)) × (0 < length blocks')) → slice_index blocks' 0 ≡ slice_index (s.layout.file_data file) 0 → KeepsFirstData old new file
      unchanged c same = record { same = λ _. keeps.first_kept c; other = λ n. absurd (n (first_new ∙ same ∙ sym first_old)) }

  -- ---- all together

  first_kept : (b : ℕ) → IsFile old b → KeepsFirstData old new b
  first_kept b f = elim (cases_eq b file) [
    | inl same ↦ subst (KeepsFirstData old new) (sym same) keeps_first
    | inr other ↦
        let at = reached_stands old t s f.reached in
        let e = entry_at old t s f.dir f.slot_of_chain at.0 b at.1 in
        let stays = long_as old new b (key_stays old new t s file node bytes found is_file blocks' extensions' bytes' h b e.node e.at other) in
        header_stays old new b (stays 2 (omega arith)) (λ i l. stays (77 - i) (omega arith)) (stays 4 (omega arith))
  ]

  pub kept : Kept old new
  kept = record {
    size = h.leaves.same_length;
    boot = boot_same old new h.leaves.same_length (λ b i l m. (boot_stays old new t s file node bytes found is_file blocks' extensions' bytes' h b l).bytes i m (λ z. z));
    others = λ b i role role' l r r' alike n.
        let at = reached_stands old t s r in
        let at' = reached_stands new v after r' in
        block_kept at.0 at'.0 b i role role' l at.1 at'.1 alike n;
    first = λ b f g. first_kept b f;
  }

  -- ---- the lowest

  lowest_of : ((c d : ℕ) → IsInside (block_count old) d → 2 ≤ c → c < d → has_free_bit old d ≡ true → has_free_bit new d ≡ false → has_free_bit new c ≡ false)
      → (block other : ℕ) → IsTaken old new block → InImage old other → HasFreeBit old other → HasFreeBit new other → block < other
  lowest_of lowest block other m i was is = elim (cases_order block other) [
    | inl same ↦ absurd (m.in_use (subst (HasFreeBit new) (sym same) is))
    | inr (inl below) ↦ below
    | inr (inr above) ↦ absurd (false≢true (sym (lowest other block m.inside i.0 above m.was_free (false_from_ne_true (has_free_bit new block) m.in_use)) ∙ is))
  ]

  -- ---- the bytes of new blocks

  -- an allocated block is one of the file's new blocks
  is_new : (b : ℕ) → IsTaken old new b → IsIn blocks' b ⊎ IsIn extensions' b
  is_new b m = h.taken b m.inside m.was_free (false_from_ne_true (has_free_bit new b) m.in_use)

  -- such a block is behind the old list
  new_place : (xs ys : List ℕ) (duty : ℕ → Duty) → ((i : ℕ) → i < length xs → HasDuty t s.layout (slice_index xs i) (duty i)) → (i b : ℕ) → IsTaken old new b → ComesFrom old xs ys i → slice_index ys i ≡ b → length xs ≤ i
  new_place xs ys duty serves i b m from e = elim from [
    | inr free ↦ free.0
    | inl was ↦ absurd (false≢true (sym (named_used old t s b (duty i) (subst (λ (c : ℕ). HasDuty t s.layout c (duty i)) (sym was.1 ∙ e) (serves i was.0))) ∙ m.was_free))
  ]

  new_data : (i b : ℕ) → IsTaken old new b → (l : i < length blocks') → slice_index blocks' i ≡ b → length (s.layout.file_data file) ≤ i
  new_data i b m l = new_place (s.layout.file_data file) blocks' (Duty.Data file) (slice_get-index (s.layout.file_data file)) i b m (h.data_from i l)

  new_extension : (q b : ℕ) → IsTaken old new b → (l : q < length extensions') → slice_index extensions' q ≡ b → length (s.layout.extensions file) ≤ q
  new_extension q b m l = new_place (s.layout.extensions file) extensions' (Duty.Extension file) (slice_get-index (s.layout.extensions file)) q b m (h.extensions_from q l)

  -- a use by the new lists is a use in the new layout
  in_after : (b : ℕ) (duty : Duty) → HasDuty v (relaid s.layout file blocks' extensions') b duty → HasDuty v after.layout b duty
  in_after b duty n = subst (λ (l : Layout). HasDuty v l b duty) (sym layout_is) n

  -- a block's role is the role of its use
  same_duty : (role : Role) (k b : ℕ) (duty : Duty) → StandsAt new v after role k b → HasDuty v (relaid s.layout file blocks' extensions') b duty → duty_of new v after role k ≡ duty
  same_duty role k b duty m n = after.fits.one_duty b (duty_of new v after role k) duty (serves_at new v after role k b m) (in_after b duty n)

  zero_data : (role : Role) (k b i j : ℕ) → StandsAt new v after role k b → IsTaken old new b → (l : j < length blocks') → slice_index blocks' j ≡ b → i < 512 → ¬ IsField new b role i → byte_at new b i ≡ 0
  zero_data role k b i j m taken l e small n = go role m n (same_duty role k b (Duty.Data file j) m (serves_data old new t s file node bytes found is_file blocks' extensions' bytes' h j l ∙ ap Some e))
    where
      go : (role : Role) → StandsAt new v after role k b → ¬ IsField new b role i → duty_of new v after role k ≡ Duty.Data file j → byte_at new b i ≡ 0
      go (roles.Data f) m n d = ap (λ (c : ℕ). byte_at new c i) (sym e) ∙ keeps.new_data j i (new_data j b taken l e) l small (behind_bytes j f b i l e n)
      go _ m n d = absurd (cc d)

  -- the meaningful longs of an extension block are fields
  long_field : (b f i : ℕ) → IsExtensionField (pointer_count new b) (i / 4) → IsField new b (roles.Extension f) i
  long_field b f i (inl z) = extension_field new b f i z
  long_field b f i (inr (inl z)) = extension_longs (0, (0, 2), omega arith, refl, (omega (arith, z), omega (arith, z)))
  long_field b f i (inr (inr (inl z))) = extension_longs (0, (0, 2), omega arith, refl, (omega (arith, z), omega (arith, z)))
  long_field b f i (inr (inr (inr (inl z)))) = extension_longs (3, (125, 127), omega arith, refl, (omega (arith, z), omega (arith, z)))
  long_field b f i (inr (inr (inr (inr z)))) = extension_longs (3, (125, 127), omega arith, refl, (omega (arith, z), omega (arith, z)))

  zero_extension : (role : Role) (k b i q : ℕ) → StandsAt new v after role k b → IsTaken old new b → (l : q < length extensions') → slice_index extensions' q ≡ b → i < 512 → ¬ IsField new b role i → byte_at new b i ≡ 0
  zero_extension role k b i q m taken l e small n = go role m n (same_duty role k b (Duty.Extension file q) m (serves_extension old new t s file node bytes found is_file blocks' extensions' bytes' h q l ∙ ap Some e))
    where
      go : (role : Role) → StandsAt new v after role k b → ¬ IsField new b role i → duty_of new v after role k ≡ Duty.Extension file q → byte_at new b i ≡ 0
      go (roles.Extension f) m n d =
          let none : ¬ IsExtensionField (pointer_count new (slice_index extensions' q)) (i / 4) = λ w. n (long_field b f i (subst (λ (c : ℕ). IsExtensionField (pointer_count new c) (i / 4)) e w)) in
          ap (λ (c : ℕ). byte_at new c i) (sym e) ∙ keeps.new_extension q i (new_extension q b taken l e) l small none
      go _ m n d = absurd (cc d)

  -- ---- their order

  -- an allocated block is in the file's lists, and in no other
  own_duty : (b : ℕ) (duty : Duty) → IsTaken old new b → HasDuty v after.layout b duty → ((i : ℕ) × (duty ≡ Duty.Data file i)) ⊎ ((q : ℕ) × (duty ≡ Duty.Extension file q))
  own_duty b duty m serves = elim (is_new b m) [
    | inl at ↦ inl (at.0, after.fits.one_duty b duty (Duty.Data file at.0) serves (in_after b (Duty.Data file at.0) (serves_data old new t s file node bytes found is_file blocks' extensions' bytes' h at.0 at.1 ∙ ap Some at.2)))
    | inr at ↦ inr (at.0, after.fits.one_duty b duty (Duty.Extension file at.0) serves (in_after b (Duty.Extension file at.0) (serves_extension old new t s file node bytes found is_file blocks' extensions' bytes' h at.0 at.1 ∙ ap Some at.2)))
  ]

  of_data : (b f i : ℕ) → IsTaken old new b → HasDuty v after.layout b (Duty.Data f i) → f ≡ file
  of_data b f i m serves = elim (own_duty b (Duty.Data f i) m serves) [ inl d ↦ let same = d.1 in cc same | inr d ↦ absurd (let same = d.1 in cc same) ]

  of_extension : (b f q : ℕ) → IsTaken old new b → HasDuty v after.layout b (Duty.Extension f q) → f ≡ file
  of_extension b f q m serves = elim (own_duty b (Duty.Extension f q) m serves) [ inl d ↦ absurd (let same = d.1 in cc same) | inr d ↦ let same = d.1 in cc same ]

  data_rise : RisesBehind (s.layout.file_data file) blocks' → (f : ℕ) → HasFileKey new f → TakenRise old new (data_blocks new f)
  data_rise rises f k i j l m a b =
      let same = of_data (slice_index (data_blocks new f) i) f i a (data_serves new v after f (file_of_key new v after f k) i (omega (arith, l, m))) in
      let here : data_blocks new f ≡ blocks' = ap (data_blocks new) same ∙ data_blocks_are new file blocks' extensions' bytes' h.writable.lawful in
      subst (TakenRise old new) (sym here) (λ p q x y c d. rises p q (new_data p (slice_index blocks' p) c (omega (arith, x, y)) refl) x y) i j l m a b

  extensions_rise : RisesBehind (s.layout.extensions file) extensions' → (f : ℕ) → HasFileKey new f → TakenRise old new (extension_blocks new f)
  extensions_rise rises f k i j l m a b =
      let same = of_extension (slice_index (extension_blocks new f) i) f i a (extension_serves new v after f (file_of_key new v after f k) i (omega (arith, l, m))) in
      let here : extension_blocks new f ≡ extensions' = ap (extension_blocks new) same ∙ extension_blocks_are new file blocks' extensions' bytes' h.writable.lawful in
      subst (TakenRise old new) (sym here) (λ p q x y c d. rises p q (new_extension p (slice_index extensions' p) c (omega (arith, x, y)) refl) x y) i j l m a b

  in_turn : ((q i : ℕ) → length (s.layout.extensions file) ≤ q → q < length extensions' → length (s.layout.file_data file) ≤ i → i < length blocks' → InTurn q (slice_index extensions' q) i (slice_index blocks' i))
      → (f : ℕ) → HasFileKey new f → TakenInTurn old new (extension_blocks new f) (data_blocks new f)
  in_turn turns f k q i l m a b =
      let same = of_data (slice_index (data_blocks new f) i) f i b (data_serves new v after f (file_of_key new v after f k) i m) in
      let here : data_blocks new f ≡ blocks' = ap (data_blocks new) same ∙ data_blocks_are new file blocks' extensions' bytes' h.writable.lawful in
      let there : extension_blocks new f ≡ extensions' = ap (extension_blocks new) same ∙ extension_blocks_are new file blocks' extensions' bytes' h.writable.lawful in
      subst (λ (xs : List ℕ). TakenInTurn old new xs (data_blocks new f)) (sym there)
      (subst (TakenInTurn old new extensions') (sym here) (λ p j x y c d. turns p j (new_extension p (slice_index extensions' p) c x refl) x (new_data j (slice_index blocks' j) d y refl) y)) q i l m a b

  zero_end : (f q i : ℕ) → HasFileKey new f → IsTaken old new (data_at new f q) → IsBehindEnd new f q i → byte_at new (data_at new f q) i ≡ 0
  zero_end f q i k m y =
      let same = of_data (data_at new f q) f q m (data_serves new v after f (file_of_key new v after f k) q y.block) in
      let here : data_blocks new f ≡ blocks' = ap (data_blocks new) same ∙ data_blocks_are new file blocks' extensions' bytes' h.writable.lawful in
      let over = new_data q (data_at new f q) m (subst (λ (xs : List ℕ). q < length xs) here y.block) (ap (λ (xs : List ℕ). slice_index xs q) (sym here)) in
      subst (λ (g : ℕ). byte_at new (data_at new g q) i ≡ 0) (sym same)
      ((file_end old new t s file node bytes found is_file blocks' extensions' bytes' h keeps).zero q i (λ l. omega (arith, over, l, ap length (data_is old t s file node bytes found is_file))) (subst (λ (g : ℕ). IsBehindEnd new g q i) same y))

  pub takes_lowest : ((c d : ℕ) → IsInside (block_count old) d → 2 ≤ c → c < d → has_free_bit old d ≡ true → has_free_bit new d ≡ false → has_free_bit new c ≡ false)
      → RisesBehind (s.layout.file_data file) blocks' → RisesBehind (s.layout.extensions file) extensions'
      → ((q i : ℕ) → length (s.layout.extensions file) ≤ q → q < length extensions' → length (s.layout.file_data file) ≤ i → i < length blocks' → InTurn q (slice_index extensions' q) i (slice_index blocks' i)) → TakesLowest old new
  takes_lowest lowest rises rises' turns = record {
    data_rise = data_rise rises;
    extensions_rise = extensions_rise rises';
    in_turn = in_turn turns;
    zero_end = zero_end;
    lowest = lowest_of lowest;
    zero_else = λ b i role taken r small n.
        let at = reached_stands new v after r in
        elim (is_new b taken) [
          | inl m ↦ zero_data role at.0 b i m.0 at.1 taken m.1 m.2 small n
          | inr m ↦ zero_extension role at.0 b i m.0 at.1 taken m.1 m.2 small n
        ];
    first = λ b taken f.
        let at = reached_stands new v after f.reached in
        let own = own_duty b Duty.Key taken (serves_at new v after (roles.Entry f.dir f.slot_of_chain) at.0 b at.1) in
        elim own [ inl d ↦ absurd (let same = d.1 in cc same) | inr d ↦ absurd (let same = d.1 in cc same) ];
  }

  -- ---- the uses of blocks

  -- a block in one of the file's lists was at its place there, or free
  came_from : (xs ys : List ℕ) (i b : ℕ) → ((j : ℕ) → j < length ys → ComesFrom old xs ys j) → slice_get ys i ≡ Some b → (slice_get xs i ≡ Some b) ⊎ HasFreeBit old b
  came_from xs ys i b from m =
      let at = slice_get-back ys i b m in
      elim (from i at.0) [
        | inl was ↦ inl (slice_get-index xs i was.0 ∙ ap Some (sym was.1 ∙ at.1))
        | inr free ↦ inr (ap (has_free_bit old) (sym at.1) ∙ free.1)
      ]

  -- the same for the lists of each file
  came : (lists : ℕ → List ℕ) (ys : List ℕ) (f i b : ℕ) → ((j : ℕ) → j < length ys → ComesFrom old (lists file) ys j) → slice_get (cond (f == file) ys (lists f)) i ≡ Some b → (slice_get (lists f) i ≡ Some b) ⊎ HasFreeBit old b
  came lists ys f i b from m = elim (cases_eq f file) [
    | inl e ↦
        let there : slice_get ys i ≡ Some b = subst (λ (c : Bool). slice_get (cond c ys (lists f)) i ≡ Some b) (eq-eqb f file e) m in
        elim (came_from (lists file) ys i b from there) [ inl was ↦ inl (ap (λ (g : ℕ). slice_get (lists g) i) e ∙ was) | inr free ↦ inr free ]
    | inr n ↦ inl (subst (λ (c : Bool). slice_get (cond c ys (lists f)) i ≡ Some b) (ne_eqb f file n) m)
  ]

  pub uses : KeepsUses old new
  uses = uses_of old new t v s after (λ b duty m. go b duty (subst (λ (l : Layout). HasDuty v l b duty) layout_is m))
    where
      go : (b : ℕ) (duty : Duty) → HasDuty v (relaid s.layout file blocks' extensions') b duty → HasDuty t s.layout b duty ⊎ HasFreeBit old b
      go b (Duty.Page i) m = inl m
      go b Duty.Key m = inl (sym (changed_keeps is_some (holding bytes') file t (each_keeps is_some (holding bytes') (λ a. refl)) b) ∙ m)
      go b (Duty.Data f i) m = came s.layout.file_data blocks' f i b h.data_from m
      go b (Duty.Extension f i) m = came s.layout.extensions extensions' f i b h.extensions_from m
      go b Duty.Lost m = inl m

  -- the file was a file
  pub kinds : KeepsKinds old new
  kinds f is = elim (cases_eq f file) [
    | inl e ↦ inl (subst (HasFileKey old) (sym e) (has_key old t s file (ap (option_map (λ (a : Node). a.content)) found ∙ ap Some is_file)))
    | inr n ↦ let c = is v after in inl (has_key old t s f (sym (ap (option_map (λ (a : Node). a.content)) (there t file node bytes bytes' found is_file f n)) ∙ c.1))
  ]

  -- ---- the bytes of free blocks

  -- the block of a node is in use
  pub key_used : (k : ℕ) (a : Node) → t.nodes k ≡ Some a → has_free_bit new k ≡ false
  key_used k a e =
      named_used new v after k Duty.Key (changed_keeps is_some (holding bytes') file t (each_keeps is_some (holding bytes') (λ a. refl)) k ∙ ap is_some e)

  module _ (c : ℕ) (free : HasFreeBit new c) where
    unused : (b : ℕ) (duty : Duty) → HasDuty v (relaid s.layout file blocks' extensions') b duty → c ≢ b
    unused b duty m e =
        false≢true (sym (named_used new v after b duty (in_after b duty m)) ∙ ap (has_free_bit new) (sym e) ∙ free)

    beside_headers : (q : ℕ) → q ≤ length extensions' → c ≢ slice_index (file ∷ extensions') q
    beside_headers zero l e = false≢true (sym (key_used file node found) ∙ ap (has_free_bit new) (sym e) ∙ free)
    beside_headers (suc q) l e =
        unused (slice_index extensions' q) (Duty.Extension file q) (serves_extension old new t s file node bytes found is_file blocks' extensions' bytes' h q (omega (arith, l))) e

    pub freed_stays : (i : ℕ) → InImage old c → i < 512 → byte_at new c i ≡ byte_at old c i
    freed_stays i inside l = keeps.others c i l (record {
      inside = inside.1;
      beside_pages = λ p m. unused (page_block old p) (Duty.Page p) (page_serves old t s p m);
      beside_headers = beside_headers;
      beside_data = λ j m. unused (slice_index blocks' j) (Duty.Data file j) (serves_data old new t s file node bytes found is_file blocks' extensions' bytes' h j m);
    })
