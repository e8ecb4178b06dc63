-- The blocks of each role in order, and the marks with the places that name them.
use Rattle.ados_check.proofs.Common.{◌≡◌, ◌≢◌, ℕ, zero, suc, ◌+◌, ◌-◌, ◌*◌, ◌/◌, ◌%◌, ◌<◌, ◌≤◌, inl, inr, List, [], ◌∷◌, length, map, slice_index, Option, Some, refl, sym, ap, ap₂, ◌∙◌, subst, arith, ⊤, range_with_len, get_or-take, length-map-range_with_len, get_or-map-range_with_len, IsImage, block_count, page_count, long, byte_at, bytes_at, Chained, table_entry, pointer, pointer_count, secondary_type, file_size, format_of, FILE_TYPE, NEXT_IN_CHAIN, NEXT_EXTENSION, long-bytes, data_count, extension_count, data_blocks, extension_blocks, contents, Role, IsPlace, Reached, IsPointer, root_of, root_page, root_slot, directory_slot, next_entry, header_pointer, first_extension, extension_pointer, further_extension, start, named, Chained-first, Chained-more, Mark, mark_at, IsChecked, IsSoundFile, Data, Entry, Extension, Page, Root, mark_of}
use Rattle.ados_check.proofs.Counting.{AreDifferent}
use Rattle.ados_check.proofs.Paths.{IsPath, follow, follow-path, follow-chained, chained_path, holder_along, long_along, AreMarkedAlong, marked_along, once_along}
use Rattle.ados_check.proofs.Roles.{IsMarkedDirectory, as_root, as_entry, IsMarkedFile, marked_inside}
use Rattle.ados_check.proofs.Reached.{along}

-- the blocks in the hash chain of a slot
unfoldable pub chain_of : List ℕ → ℕ → ℕ → List ℕ
chain_of image dir s = follow (suc (block_count image)) image NEXT_IN_CHAIN (table_entry image dir s)

-- the bitmap blocks in the root
unfoldable pub pages_of : List ℕ → List ℕ
pages_of image = map (λ i. long image (root_of image) (79 + i)) (range_with_len 0 (page_count (block_count image)))

pub length-pages_of : (image : List ℕ) → length (pages_of image) ≡ page_count (block_count image)
unfolding pages_of
length-pages_of image = length-map-range_with_len (λ i. long image (root_of image) (79 + i)) 0 (page_count (block_count image))

pub page-at : (image : List ℕ) (i : ℕ) → i < page_count (block_count image) → slice_index (pages_of image) i ≡ long image (root_of image) (79 + i)
unfolding pages_of
page-at image i l = get_or-map-range_with_len (λ i. long image (root_of image) (79 + i)) 0 (page_count (block_count image)) i i 0 l (omega arith)

pub length-data_blocks : (image : List ℕ) (file : ℕ) → length (data_blocks image file) ≡ data_count (format_of image) (file_size image file)
unfolding data_blocks
length-data_blocks image file = length-map-range_with_len _ 0 (data_count (format_of image) (file_size image file))

pub length-extension_blocks : (image : List ℕ) (file : ℕ) → length (extension_blocks image file) ≡ extension_count (length (data_blocks image file))
unfolding extension_blocks
length-extension_blocks image file = length-map-range_with_len _ 0 (extension_count (data_count (format_of image) (file_size image file))) ∙ ap extension_count (sym (length-data_blocks image file))

pub length-contents : (image : List ℕ) (file : ℕ) → length (contents image file) ≡ file_size image file
unfolding contents
length-contents image file = length-map-range_with_len _ 0 (file_size image file)

-- the boot block is not an extension block
boot_long : (image : List ℕ) (last : ℕ) → bytes_at image 0 0 4 ≡ 68 ∷ 79 ∷ 83 ∷ last ∷ [] → long image 0 0 ≢ 16
unfolding bytes_at byte_at
boot_long image last e z =
    let first : slice_index image 0 ≡ 68 = sym (get_or-take 4 image 0 0 (omega arith)) ∙ ap (λ (xs : List ℕ). slice_index xs 0) e in
    let bytes = long-bytes image 0 0 in
    omega (arith, first, bytes, z)

module _ (image : List ℕ) (marks : List (Option Mark)) (im : IsImage image) (c : IsChecked image marks) where
  root_marked : (dir : ℕ) → dir ≡ root_of image → mark_at marks dir ≡ Some (mark_of Root 0 0)
  root_marked dir e = ap (mark_at marks) e ∙ c.reached.root

  -- ---- the chains of directories

  slot_marked : (dir s : ℕ) → IsMarkedDirectory image marks dir → s < 72 → table_entry image dir s ≢ 0 → mark_at marks (table_entry image dir s) ≡ Some (mark_of (Entry dir s) dir (6 + s))
  slot_marked dir s (as_root e) l n = c.reached.marked dir (6 + s) (mark_of Root 0 0) (Entry dir s) (root_marked dir e) (root_slot l n)
  slot_marked dir s (as_entry m up r e is sec) l n =
      c.reached.marked dir (6 + s) m (Entry dir s) e (subst (λ (x : Role). IsPlace image dir x (6 + s) (Entry dir s)) (sym is) (directory_slot sec l n))

  chain-along : (dir s : ℕ) → IsMarkedDirectory image marks dir → s < 72 → AreMarkedAlong image marks (Entry dir s) NEXT_IN_CHAIN (table_entry image dir s) dir (6 + s)
  chain-along dir s d l = record {
    begins = slot_marked dir s d l;
    goes_on = λ b h at e n. c.reached.marked b NEXT_IN_CHAIN (mark_of (Entry dir s) h at) (Entry dir s) e (next_entry n);
    apart = λ h at e z. omega (arith, z, l);
  }

  chain-path : (dir s : ℕ) → IsPath image NEXT_IN_CHAIN (table_entry image dir s) (chain_of image dir s)
  unfolding chain_of
  chain-path dir s = follow-path (suc (block_count image)) image NEXT_IN_CHAIN (table_entry image dir s)

  pub chain-chained : (dir s : ℕ) → IsMarkedDirectory image marks dir → s < 72 → Chained image NEXT_IN_CHAIN (table_entry image dir s) (chain_of image dir s)
  unfolding chain_of
  chain-chained dir s d l =
      follow-chained image marks (Entry dir s) NEXT_IN_CHAIN (table_entry image dir s) dir (6 + s) (chain-along dir s d l) (block_count image) (λ b m e. (marked_inside image marks c.reached im b m e).1)

  -- ---- the blocks of files

  pub sound_file : (file : ℕ) → IsMarkedFile image marks file → IsSoundFile image file
  sound_file file f = c.files file f.dir (f.mark, f.slot_of_chain, f.marked, f.role) f.secondary

  extension-along : (file : ℕ) → IsMarkedFile image marks file → AreMarkedAlong image marks (Extension file) NEXT_EXTENSION (long image file NEXT_EXTENSION) file NEXT_EXTENSION
  extension-along file f = along image marks im c.reached file f

  extension-path : (file : ℕ) → IsMarkedFile image marks file → IsPath image NEXT_EXTENSION (long image file NEXT_EXTENSION) (extension_blocks image file)
  extension-path file f =
      let h = sound_file file f in
      chained_path image NEXT_EXTENSION (long image file NEXT_EXTENSION) (extension_blocks image file) h.chain
      (λ i l z. boot_long image _ c.boot (ap (λ (b : ℕ). long image b 0) (sym z) ∙ (h.extension i l).primary))

  extension_marked : (file : ℕ) → IsMarkedFile image marks file → (k : ℕ) → k < length (extension_blocks image file) → mark_at marks (slice_index (extension_blocks image file) k) ≡ Some (mark_of (Extension file) (holder_along file (extension_blocks image file) k) (long_along NEXT_EXTENSION NEXT_EXTENSION k))
  extension_marked file f = marked_along image marks (Extension file) NEXT_EXTENSION (long image file NEXT_EXTENSION) file NEXT_EXTENSION (extension-along file f) (extension_blocks image file) (extension-path file f)

  extension_once : (file : ℕ) → IsMarkedFile image marks file → AreDifferent (extension_blocks image file)
  extension_once file f = once_along image marks (Extension file) NEXT_EXTENSION (long image file NEXT_EXTENSION) file NEXT_EXTENSION (extension-along file f) (extension_blocks image file) (extension-path file f)

  -- ---- the list of each role

  abbrev pub list_of : Role → List ℕ
  list_of Root = root_of image ∷ []
  list_of Page = pages_of image
  list_of (Entry dir s) = chain_of image dir s
  list_of (Data file) = data_blocks image file
  list_of (Extension file) = extension_blocks image file

  -- the premise for the blocks of a role
  abbrev pub Holder : Role → Type 0
  Holder Root = ⊤
  Holder Page = ⊤
  Holder (Entry dir s) = IsMarkedDirectory image marks dir × (s < 72)
  Holder (Data file) = IsMarkedFile image marks file
  Holder (Extension file) = IsMarkedFile image marks file

  -- the block is at position k of the list of its role
  pub record StandsAt (role : Role) (k block : ℕ) : Type 0 where
    pub within : k < length (list_of role)
    pub here : slice_index (list_of role) k ≡ block
    pub holder : Holder role

  -- the block with the long that names position k of a role's list, and the index of that long
  abbrev pub holder_of : Role → ℕ → ℕ
  holder_of Root k = 0
  holder_of Page k = root_of image
  holder_of (Entry dir s) k = holder_along dir (chain_of image dir s) k
  holder_of (Data file) k = slice_index (file ∷ extension_blocks image file) (k / 72)
  holder_of (Extension file) k = holder_along file (extension_blocks image file) k

  abbrev pub long_of : Role → ℕ → ℕ
  long_of Root k = 0
  long_of Page k = 79 + k
  long_of (Entry dir s) k = long_along (6 + s) NEXT_IN_CHAIN k
  long_of (Data file) k = 77 - k % 72
  long_of (Extension file) k = long_along NEXT_EXTENSION NEXT_EXTENSION k

  -- ---- the pointers of a file

  -- a pointer of a header or extension block is a place
  pointer_place : (file : ℕ) (f : IsMarkedFile image marks file) (q : ℕ) → q ≤ length (extension_blocks image file)
      → (m : Mark) × (mark_at marks (slice_index (file ∷ extension_blocks image file) q) ≡ Some m) × ((p : ℕ) → IsPointer image (slice_index (file ∷ extension_blocks image file) q) p → IsPlace image (slice_index (file ∷ extension_blocks image file) q) m.role (77 - p) (Data file))
  pointer_place file f zero l = (f.mark, f.marked, λ p h. subst (λ (x : Role). IsPlace image file x (77 - p) (Data file)) (sym f.role) (header_pointer f.secondary h))
  pointer_place file f (suc q) l = (
    _,
    extension_marked file f q (omega arith),
    λ p h. extension_pointer h,
  )

  pub holder_within : (file k : ℕ) → k < length (data_blocks image file) → k / 72 ≤ length (extension_blocks image file)
  holder_within file k l = omega (arith, length-extension_blocks image file, l)

  pointer_within : (file : ℕ) (f : IsMarkedFile image marks file) (k : ℕ) → k < length (data_blocks image file) → IsPointer image (slice_index (file ∷ extension_blocks image file) (k / 72)) (k % 72)
  pointer_within file f k l =
      let counted = (sound_file file f).counts (k / 72) (holder_within file k l) in
      (omega (arith, counted, l), omega (arith, counted))

  data_marked : (file : ℕ) (f : IsMarkedFile image marks file) (k : ℕ) → k < length (data_blocks image file) → mark_at marks (slice_index (data_blocks image file) k) ≡ Some (mark_of (Data file) (slice_index (file ∷ extension_blocks image file) (k / 72)) (77 - k % 72))
  data_marked file f k l =
      let from = pointer_place file f (k / 72) (holder_within file k l) in
      ap (mark_at marks) (sym ((sound_file file f).pointers k l))
      ∙ c.reached.marked (slice_index (file ∷ extension_blocks image file) (k / 72)) (77 - k % 72) from.0 (Data file) from.1 (from.2 (k % 72) (pointer_within file f k l))

  -- ---- the mark of a block at its position

  pub marked_at : (role : Role) (k block : ℕ) → StandsAt role k block → mark_at marks block ≡ Some (mark_of role (holder_of role k) (long_of role k))
  marked_at Root zero block h = root_marked block (sym h.here)
  marked_at Root (suc k) block h = absurd (omega (arith, h.within))
  marked_at Page k block h =
      let l : k < page_count (block_count image) = omega (arith, h.within, length-pages_of image) in
      ap (mark_at marks) (sym h.here ∙ page-at image k l) ∙ c.reached.marked (root_of image) (79 + k) (mark_of Root 0 0) Page c.reached.root (root_page l)
  marked_at (Entry dir s) k block h =
      ap (mark_at marks) (sym h.here)
      ∙ marked_along image marks (Entry dir s) NEXT_IN_CHAIN (table_entry image dir s) dir (6 + s) (chain-along dir s h.holder.0 h.holder.1) (chain_of image dir s) (chain-path dir s) k h.within
  marked_at (Data file) k block h = ap (mark_at marks) (sym h.here) ∙ data_marked file h.holder k h.within
  marked_at (Extension file) k block h =
      ap (mark_at marks) (sym h.here)
      ∙ extension_marked file h.holder k h.within

  -- ---- a block is at one position

  pub different_headers : (file : ℕ) → IsMarkedFile image marks file → AreDifferent (file ∷ extension_blocks image file)
  different_headers file f = go
    where
      not_file : (q : ℕ) → q < length (extension_blocks image file) → file ≡ slice_index (extension_blocks image file) q → ⊥
      not_file q l e =
          let at = ap (mark_at marks) e ∙ marked_at (Extension file) q _ (record { within = l; here = refl; holder = f }) in
          (extension-along file f).apart _ _ at refl

      go : AreDifferent (file ∷ extension_blocks image file)
      go zero zero l m e = refl
      go zero (suc j) l m e = absurd (not_file j (omega arith) e)
      go (suc i) zero l m e = absurd (not_file i (omega arith) (sym e))
      go (suc i) (suc j) l m e =
          ap (λ (n : ℕ). suc n) (extension_once file f i j (omega arith) (omega arith) e)

  pub one_place : (role : Role) (k j block : ℕ) → StandsAt role k block → StandsAt role j block → k ≡ j
  one_place Root k j block h g = omega (arith, h.within, g.within)
  one_place Page k j block h g =
      let one = marked_at Page k block h in
      let other = marked_at Page j block g in
      let same : mark_of Page (root_of image) (79 + k) ≡ mark_of Page (root_of image) (79 + j) = cc (one, other) in
      let longs : 79 + k ≡ 79 + j = ap (λ (m : Mark). m.long) same in
      omega (arith, longs)
  one_place (Entry dir s) k j block h g =
      once_along image marks (Entry dir s) NEXT_IN_CHAIN (table_entry image dir s) dir (6 + s) (chain-along dir s h.holder.0 h.holder.1) (chain_of image dir s) (chain-path dir s) k j h.within g.within (h.here ∙ sym g.here)
  one_place (Data file) k j block h g =
      let one = marked_at (Data file) k block h in
      let other = marked_at (Data file) j block g in
      let same : mark_of (Data file) (slice_index (file ∷ extension_blocks image file) (k / 72)) (77 - k % 72) ≡ mark_of (Data file) (slice_index (file ∷ extension_blocks image file) (j / 72)) (77 - j % 72) = cc (one, other) in
      let longs : 77 - k % 72 ≡ 77 - j % 72 = ap (λ (m : Mark). m.long) same in
      let holders : slice_index (file ∷ extension_blocks image file) (k / 72) ≡ slice_index (file ∷ extension_blocks image file) (j / 72) = ap (λ (m : Mark). m.holder) same in
      let quotients : k / 72 ≡ j / 72 = different_headers file h.holder (k / 72) (j / 72) (omega (arith, holder_within file k h.within)) (omega (arith, holder_within file j g.within)) holders in
      omega (arith, longs, quotients)
  one_place (Extension file) k j block h g =
      extension_once file h.holder k j h.within g.within (h.here ∙ sym g.here)

  -- ---- each reached block is at a position

  root_at : (k block : ℕ) → StandsAt Root k block → block ≡ root_of image
  root_at zero block h = sym h.here
  root_at (suc k) block h = absurd (omega (arith, h.within))

  pub directory_at : (dir s k block : ℕ) → StandsAt (Entry dir s) k block → secondary_type image block ≡ 2 → IsMarkedDirectory image marks block
  directory_at dir s k block h e = as_entry (mark_of (Entry dir s) (holder_of (Entry dir s) k) (long_of (Entry dir s) k)) dir s (marked_at (Entry dir s) k block h) refl e

  pub file_at : (dir s k block : ℕ) → StandsAt (Entry dir s) k block → secondary_type image block ≡ FILE_TYPE → IsMarkedFile image marks block
  file_at dir s k block h e = record {
    mark = mark_of (Entry dir s) (holder_of (Entry dir s) k) (long_of (Entry dir s) k);
    dir = dir;
    slot_of_chain = s;
    marked = marked_at (Entry dir s) k block h;
    role = refl;
    secondary = e;
  }

  slot_stands : (dir s : ℕ) → IsMarkedDirectory image marks dir → s < 72 → table_entry image dir s ≢ 0 → StandsAt (Entry dir s) 0 (table_entry image dir s)
  slot_stands dir s d l n =
      let first = Chained-first image NEXT_IN_CHAIN (table_entry image dir s) (chain_of image dir s) (chain-chained dir s d l) n in
      record { within = first.0; here = first.1; holder = (d, l) }

  pointer_stands : (file : ℕ) (f : IsMarkedFile image marks file) (q p : ℕ) → q ≤ length (extension_blocks image file) → p < pointer_count image (slice_index (file ∷ extension_blocks image file) q) → StandsAt (Data file) (72 * q + p) (pointer image (slice_index (file ∷ extension_blocks image file) q) p)
  pointer_stands file f q p l m =
      let h = sound_file file f in
      let counted = h.counts q l in
      let within : 72 * q + p < length (data_blocks image file) = omega (arith, m, counted) in
      let small : p < 72 = omega (arith, m, counted) in
      let quotient : (72 * q + p) / 72 ≡ q = omega (arith, small) in
      let remainder : (72 * q + p) % 72 ≡ p = omega (arith, small) in
      record {
        within = within;
        here = sym (h.pointers (72 * q + p) within) ∙ ap₂ (λ (i j : ℕ). pointer image (slice_index (file ∷ extension_blocks image file) i) j) quotient remainder;
        holder = f;
      }

  next_stands : {block i : ℕ} {role next : Role} (k : ℕ) → StandsAt role k block → IsPlace image block role i next → (j : ℕ) × StandsAt next j (long image block i)
  next_stands {block = block} k h (root_page {i = i} l) =
      (i, record { within = omega (arith, l, length-pages_of image); here = page-at image i l ∙ ap (λ (b : ℕ). long image b (79 + i)) (sym (root_at k block h)); holder = tt })
  next_stands {block = block} k h (root_slot {s = s} l n) = (0, slot_stands block s (as_root (root_at k block h)) l n)
  next_stands {block = block} k h (directory_slot {dir = dir} {r = r} {s = s} e l n) = (0, slot_stands block s (directory_at dir r k block h e) l n)
  next_stands {block = block} k h (next_entry {dir = dir} {s = s} n) =
      let here = ap (λ (b : ℕ). long image b NEXT_IN_CHAIN) h.here in
      elim (Chained-more image NEXT_IN_CHAIN (table_entry image dir s) (chain_of image dir s) k (chain-chained dir s h.holder.0 h.holder.1) h.within) [
        | inl g ↦ (suc k, record { within = g.0; here = sym g.1 ∙ here; holder = h.holder })
        | inr g ↦ absurd (n (sym here ∙ g.1))
      ]
  next_stands {block = block} k h (header_pointer {dir = dir} {s = s} {i = i} e p) =
      (72 * 0 + i, pointer_stands block (file_at dir s k block h e) 0 i (omega arith) p.0)
  next_stands {block = block} k h (first_extension {dir = dir} {s = s} e n) =
      let f = file_at dir s k block h e in
      let first = Chained-first image NEXT_EXTENSION (long image block NEXT_EXTENSION) (extension_blocks image block) (sound_file block f).chain n in
      (0, record { within = first.0; here = first.1; holder = f })
  next_stands {block = block} k h (extension_pointer {file = file} {i = i} p) =
      let count : i < pointer_count image (slice_index (file ∷ extension_blocks image file) (suc k)) = subst (λ (b : ℕ). i < pointer_count image b) (sym h.here) p.0 in
      (72 * suc k + i, subst (λ (b : ℕ). StandsAt (Data file) (72 * suc k + i) (pointer image b i)) h.here (pointer_stands file h.holder (suc k) i (omega (arith, h.within)) count))
  next_stands {block = block} k h (further_extension {file = file} n) =
      let here = ap (λ (b : ℕ). long image b NEXT_EXTENSION) h.here in
      elim (Chained-more image NEXT_EXTENSION (long image file NEXT_EXTENSION) (extension_blocks image file) k (sound_file file h.holder).chain h.within) [
        | inl g ↦ (suc k, record { within = g.0; here = sym g.1 ∙ here; holder = h.holder })
        | inr g ↦ absurd (n (sym here ∙ g.1))
      ]

  pub reached_stands : {block : ℕ} {role : Role} → Reached image block role → (k : ℕ) × StandsAt role k block
  reached_stands start = (0, record { within = omega arith; here = refl; holder = tt })
  reached_stands (named h p inside) = let n = reached_stands h in next_stands n.0 n.1 p

  -- each marked block is at a position of its role's list
  pub marked_stands : (block : ℕ) (m : Mark) → mark_at marks block ≡ Some m → (k : ℕ) × StandsAt m.role k block
  marked_stands block m e = reached_stands (c.reached.reached block m e)
