-- What is unchanged in a sound image when only its bitmap changes.
use Rattle.ados_check.proofs.Common.{◌≡◌, ◌≢◌, ℕ, ◌+◌, ◌/◌, ◌<◌, ◌≤◌, inl, inr, List, Option, Some, refl, sym, ap, ◌∙◌, subst, arith, IsImage, text_at, block_count, root_key, page_count, long, byte_at, bytes_at, block_sum, HasText, format_of, NAME_BYTE, SameBut, same_count, same_long, same_bytes_at, same_sum, IsName, Role, Root, Page, IsPlace, IsPointer, Reached, root_of, root_page, root_slot, directory_slot, next_entry, header_pointer, first_extension, extension_pointer, further_extension, IsOfBitmap, HasExtension, Mark, mark_at, AreReached, HasValidName}
use Rattle.ados_check.proofs.Roles.{one_role, reached_inside, root_role}

-- the longs of a block without the two of the bitmap in the root
abbrev pub HasSameLongs : List ℕ → List ℕ → ℕ → Type 0
HasSameLongs old new block = (j : ℕ) → j < 128 → j ≢ 5 → j ≢ 78 → long new block j ≡ long old block j

pointer_moves : (old new : List ℕ) (block i : ℕ) → HasSameLongs old new block → IsPointer old block i → IsPointer new block i
pointer_moves old new block i same h =
    let count = same 2 (omega arith) (omega arith) (omega arith) in
    (omega (arith, h.0, count), omega (arith, h.1, count))

-- a place of a block is a place in the other image
pub place_moves : (old new : List ℕ) {block i : ℕ} {role next : Role} → block_count new ≡ block_count old → HasSameLongs old new block → IsPlace old block role i next → IsPlace new block role i next
place_moves old new count same (root_page l) = root_page (omega (arith, l, ap page_count count))
place_moves old new count same (root_slot {s = s} l n) = let entry = same (6 + s) (omega arith) (omega arith) (omega arith) in root_slot l (λ z. n (sym entry ∙ z))
place_moves old new count same (directory_slot {s = s} e l n) =
    let entry = same (6 + s) (omega arith) (omega arith) (omega arith) in
    directory_slot (same 127 (omega arith) (omega arith) (omega arith) ∙ e) l (λ z. n (sym entry ∙ z))
place_moves old new count same (next_entry n) = let link = same 124 (omega arith) (omega arith) (omega arith) in next_entry (λ z. n (sym link ∙ z))
place_moves old new {block = block} count same (header_pointer {i = i} e p) = header_pointer (same 127 (omega arith) (omega arith) (omega arith) ∙ e) (pointer_moves old new block i same p)
place_moves old new count same (first_extension e n) =
    let link = same 126 (omega arith) (omega arith) (omega arith) in
    first_extension (same 127 (omega arith) (omega arith) (omega arith) ∙ e) (λ z. n (sym link ∙ z))
place_moves old new {block = block} count same (extension_pointer {i = i} p) = extension_pointer (pointer_moves old new block i same p)
place_moves old new count same (further_extension n) = let link = same 126 (omega arith) (omega arith) (omega arith) in further_extension (λ z. n (sym link ∙ z))

-- no place is a long of the bitmap or in a bitmap block
pub record IsPlaceLong (role : Role) (i : ℕ) : Type 0 where
  pub small : i < 128
  pub no_sum : i ≢ 5
  pub no_flag : i ≢ 78
  pub no_page : role ≢ Page

pub place_long : {image : List ℕ} {block i : ℕ} {role next : Role} → block_count image ≤ 101602 → IsPlace image block role i next → IsPlaceLong role i
place_long few (root_page l) = record { small = omega arith; no_sum = λ z. omega (arith, z); no_flag = λ z. omega (arith, z); no_page = λ z. cc z }
place_long few (root_slot l n) = record { small = omega arith; no_sum = λ z. omega (arith, z); no_flag = λ z. omega (arith, z, l); no_page = λ z. cc z }
place_long few (directory_slot e l n) = record { small = omega arith; no_sum = λ z. omega (arith, z); no_flag = λ z. omega (arith, z, l); no_page = λ z. cc z }
place_long few (next_entry n) = record { small = omega arith; no_sum = λ z. omega (arith, z); no_flag = λ z. omega (arith, z); no_page = λ z. cc z }
place_long few (header_pointer e p) = record { small = omega arith; no_sum = λ z. omega (arith, z, p.0, p.1); no_flag = λ z. omega (arith, z); no_page = λ z. cc z }
place_long few (first_extension e n) = record { small = omega arith; no_sum = λ z. omega (arith, z); no_flag = λ z. omega (arith, z); no_page = λ z. cc z }
place_long few (extension_pointer p) = record { small = omega arith; no_sum = λ z. omega (arith, z, p.0, p.1); no_flag = λ z. omega (arith, z); no_page = λ z. cc z }
place_long few (further_extension n) = record { small = omega arith; no_sum = λ z. omega (arith, z); no_flag = λ z. omega (arith, z); no_page = λ z. cc z }

module _ (old new : List ℕ) (marks : List (Option Mark)) (im : IsImage old) (r : AreReached old marks) (same : SameBut (IsOfBitmap old) old new) where
  pub count_same : block_count new ≡ block_count old
  count_same = same_count (IsOfBitmap old) old new same

  pub root_same : root_of new ≡ root_of old
  root_same = ap root_key count_same

  -- no byte of the block belongs to the bitmap
  abbrev pub IsUntouched : ℕ → Type 0
  IsUntouched block = (k : ℕ) → ¬ IsOfBitmap old block k

  pub boot_untouched : IsUntouched 0
  boot_untouched k (inl h) = let inside = reached_inside old marks r im h in omega (arith, inside.0)
  boot_untouched k (inr h) = let inside = reached_inside old marks r im Reached.start in omega (arith, inside.0, h.0)

  pub untouched : (block : ℕ) (m : Mark) → mark_at marks block ≡ Some m → m.role ≢ Root → m.role ≢ Page → IsUntouched block
  untouched block m e no_root no_page k (inl h) = no_page (one_role old marks r block m Page e h)
  untouched block m e no_root no_page k (inr h) =
      no_root (one_role old marks r block m Root e (subst (λ (b : ℕ). Reached old b Root) (sym h.0) Reached.start))

  -- in the root only two longs belong to the bitmap
  pub root_untouched : (k : ℕ) → k / 4 ≢ 5 → k / 4 ≢ 78 → ¬ IsOfBitmap old (root_of old) k
  root_untouched k n f (inl h) =
      let role : Root ≡ Page = one_role old marks r (root_of old) (record { role = Root; holder = 0; long = 0 }) Page r.root h in
      cc role
  root_untouched k n f (inr (e, inl z)) = n z
  root_untouched k n f (inr (e, inr z)) = f z

  pub long_kept : (block j : ℕ) → IsUntouched block → j < 128 → long new block j ≡ long old block j
  long_kept block j free l = same_long (IsOfBitmap old) old new same block j l (λ k e. free k)

  pub byte_kept : (block k : ℕ) → IsUntouched block → k < 512 → byte_at new block k ≡ byte_at old block k
  byte_kept block k free l = same.same_byte block k l (free k)

  pub bytes_kept : (block i n : ℕ) → IsUntouched block → i + n ≤ 512 → bytes_at new block i n ≡ bytes_at old block i n
  bytes_kept block i n free l = same_bytes_at (IsOfBitmap old) old new same block i n l (λ k from below. free k)

  pub sum_kept : (block : ℕ) → IsUntouched block → block_sum new block ≡ block_sum old block
  sum_kept block free = same_sum (IsOfBitmap old) old new same block (λ k l. free k)

  pub root_longs : HasSameLongs old new (root_of old)
  root_longs j l n f = same_long (IsOfBitmap old) old new same (root_of old) j l (λ k e. root_untouched k (λ z. n (sym e ∙ z)) (λ z. f (sym e ∙ z)))

  pub format_same : format_of new ≡ format_of old
  format_same = let kind = byte_kept 0 3 boot_untouched (omega arith) in rw kind refl

  -- a marked block that is not a bitmap block keeps its longs
  pub longs_kept : (block : ℕ) (m : Mark) → mark_at marks block ≡ Some m → m.role ≢ Page → HasSameLongs old new block
  longs_kept block m e no_page = go m.role refl
    where
      other : m.role ≢ Root → HasSameLongs old new block
      other no_root j l n f = long_kept block j (untouched block m e no_root no_page) l

      go : (role : Role) → m.role ≡ role → HasSameLongs old new block
      go Root is = subst (HasSameLongs old new) (sym (root_role old marks r block m e is)) root_longs
      go Page is = absurd (no_page is)
      go _ is = other (λ z. cc (z, is))

  -- ---- names

  -- no byte of the name belongs to the bitmap
  abbrev IsNameFree : ℕ → Type 0
  IsNameFree block = (k : ℕ) → NAME_BYTE ≤ k → ¬ IsOfBitmap old block k

  name_kept : (block : ℕ) → IsNameFree block → HasValidName old block
      → (byte_at new block NAME_BYTE ≡ byte_at old block NAME_BYTE) × (bytes_at new block (NAME_BYTE + 1) (byte_at old block NAME_BYTE) ≡ text_at old block NAME_BYTE)
  name_kept block free h = (
    same.same_byte block NAME_BYTE (omega arith) (free NAME_BYTE (omega arith)),
    same_bytes_at (IsOfBitmap old) old new same block (NAME_BYTE + 1) (byte_at old block NAME_BYTE) (omega (arith, h.text.counted, h.valid.short)) (λ k from below. free k (omega (arith, from))),
  )

  same_name : (block : ℕ) → IsNameFree block → HasValidName old block → text_at new block NAME_BYTE ≡ text_at old block NAME_BYTE
  same_name block free h = let kept = name_kept block free h in ap (bytes_at new block (NAME_BYTE + 1)) kept.0 ∙ kept.1

  valid_name : (block : ℕ) → IsNameFree block → HasValidName old block → HasValidName new block
  valid_name block free h =
      let kept = name_kept block free h in
      let text = sym (same_name block free h) in
      record {
        text = subst (HasText new block NAME_BYTE) text (record { counted = kept.0 ∙ h.text.counted; follows = ap (bytes_at new block (NAME_BYTE + 1)) (sym h.text.counted) ∙ kept.1 });
        valid = subst IsName text h.valid;
      }

  pub name_same : (block : ℕ) → IsUntouched block → HasValidName old block → text_at new block NAME_BYTE ≡ text_at old block NAME_BYTE
  name_same block free = same_name block (λ k from. free k)

  pub name_valid : (block : ℕ) → IsUntouched block → HasValidName old block → HasValidName new block
  name_valid block free = valid_name block (λ k from. free k)

  pub root_name_valid : HasValidName old (root_of old) → HasValidName new (root_of old)
  root_name_valid = valid_name (root_of old) (λ k from. root_untouched k (λ z. omega (arith, z, from)) (λ z. omega (arith, z, from)))

  -- ---- blocks of a file

  pub extension_kept : (block file : ℕ) → IsUntouched block → HasExtension old file block → HasExtension new file block
  extension_kept block file free e = record {
    primary = long_kept block 0 free (omega arith) ∙ e.primary;
    key_field = long_kept block 1 free (omega arith) ∙ e.key_field;
    sum = sum_kept block free ∙ e.sum;
    parent = long_kept block 125 free (omega arith) ∙ e.parent;
    secondary = long_kept block 127 free (omega arith) ∙ e.secondary;
  }
