-- The blocks of a file, while they are gathered.
use Rattle.ados_salvage.proofs.KnownCommon.{All, Contains, ◌≡◌, ℕ, zero, suc, ◌+◌, ◌-◌, ◌/◌, ◌%◌, ◌<◌, ◌≤◌, inl, inr, Bool, true, false, MatchBool, List, [], ◌∷◌, ◌++◌, length, take, drop, take_all, map, get_or, slice_index, refl, sym, ap, ◌∙◌, subst, arith, range_with_len, map-range_with_len_more, All-from_get_or, cases_lt, ext_get_or, append_assoc, get_or_append_left, get_or_default, length-append, Ofs, block_count, long, IsInside, format_of, NEXT_DATA, pointer_block, data_block, data_blocks, extension_blocks, LawfulFile, in_extensions, IsIntact, own_blocks, AreUsersBelow, IsHolder, HasHolders, HasKnownBlocks, NEXT_EXTENSION, IsDataBlock, HasData, data_needed, extensions_needed, data_before}
use Rattle.std.proofs.lemmas.List.{drop-append-le, drop_all}
use Rattle.ados_salvage.proofs.SoundParts.{length-data, length-extensions, header-is, length-own, own-header, own-data, data-at, lawful_few, lawful_holders}

-- all blocks of a sound file are known
pub intact_known : (image : List ℕ) (file : ℕ) → IsIntact image file → HasKnownBlocks image file
intact_known image file i = record { few = lawful_few image file i.lawful; holders = lawful_holders image file i.lawful }

-- a result, by its meaning for true and for false
pub decided : (A B : Type 0) (b : Bool) → (b ≡ true → A) → (b ≡ false → B) → MatchBool b A B
decided A B true f g = f refl
decided A B false f g = g refl

-- the users of blocks after a file was looked at that used none, or some
pub users_kept : (image : List ℕ) (n : ℕ) (users : List ℕ) → AreUsersBelow image n users → AreUsersBelow image (n + 1) users
users_kept image n users h = record { size = h.size; below = λ k d l. omega (arith, h.below k d l) }

module _ (image : List ℕ) (file : ℕ) where
  -- all pointer blocks were gathered
  pub all_holders : (xs : List ℕ) (n : ℕ) → n ≡ suc (extensions_needed image file) → length xs ≡ n → ((p : ℕ) → p < n → slice_index xs p ≡ pointer_block image file p)
      → ((p : ℕ) → p < n → IsHolder image file p (pointer_block image file p)) → pointer_block image file n ≡ 0 → HasHolders image file × (xs ≡ file ∷ extension_blocks image file)
  all_holders xs n e size blocks sound ends = (
    record { holder = λ q l. sound q (omega (arith, l, e)); ends = ap (pointer_block image file) (sym e) ∙ ends },
    ext_get_or 0 xs (file ∷ extension_blocks image file) (omega (arith, size, e, length-extensions image file))
        (λ i l. blocks i (omega (arith, l, size)) ∙ sym (header-is image file i (omega (arith, l, size, e)))),
  )

  -- the pointer blocks are not right if one has other fields, comes again, or is followed by one too many
  pub not_holder : (q block : ℕ) → q ≤ extensions_needed image file → block ≡ pointer_block image file q → ¬ IsHolder image file q block → ¬ HasHolders image file
  not_holder q block l is wrong h = wrong (subst (IsHolder image file q) (sym is) (h.holder q l))

  -- after one block the same blocks follow
  along : (d p q : ℕ) → pointer_block image file p ≡ pointer_block image file q → (a b : ℕ) → a ≡ d + p → b ≡ d + q → pointer_block image file a ≡ pointer_block image file b
  along zero p q e a b x y =
      let first : a ≡ p = omega (arith, x) in
      let second : b ≡ q = omega (arith, y) in
      ap (pointer_block image file) first ∙ e ∙ sym (ap (pointer_block image file) second)
  along (suc d) p q e a b x y =
      let first : a ≡ suc (d + p) = omega (arith, x) in
      let second : b ≡ suc (d + q) = omega (arith, y) in
      ap (pointer_block image file) first ∙ ap (λ (k : ℕ). long image k NEXT_EXTENSION) (along d p q e (d + p) (d + q) refl refl) ∙ sym (ap (pointer_block image file) second)

  comes_again : (p q block : ℕ) → p < q → q ≤ extensions_needed image file → block ≡ pointer_block image file q → pointer_block image file p ≡ block → ¬ HasHolders image file
  comes_again p q block l m is again h =
      let same : pointer_block image file (suc (extensions_needed image file) - q + p) ≡ pointer_block image file (suc (extensions_needed image file)) =
      along (suc (extensions_needed image file) - q) p q (again ∙ is) (suc (extensions_needed image file) - q + p) (suc (extensions_needed image file)) refl (omega (arith, m)) in
      omega (arith, (h.holder (suc (extensions_needed image file) - q + p) (omega (arith, l, m))).inside.0, same, h.ends)

  pub not_again : (xs : List ℕ) (q block : ℕ) → length xs ≡ q → ((p : ℕ) → p < q → slice_index xs p ≡ pointer_block image file p) → Contains xs block → q ≤ extensions_needed image file → block ≡ pointer_block image file q
      → ¬ HasHolders image file
  not_again xs q block size blocks (p, l, e) m is =
      let below : p < q = omega (arith, l, size) in
      comes_again p q block below m is (sym (blocks p below) ∙ get_or_default xs p 0 block l ∙ e)

  pub not_ended : (q block : ℕ) → q ≡ suc (extensions_needed image file) → block ≡ pointer_block image file q → ¬ (block ≡ 0) → ¬ HasHolders image file
  not_ended q block e is wrong h = wrong (is ∙ ap (pointer_block image file) e ∙ h.ends)

  module _ (h : HasHolders image file) where
    pub holder_below : (q : ℕ) → q ≤ extensions_needed image file → pointer_block image file q < block_count image
    holder_below q l = (h.holder q l).inside.1

    pub file_below : file < block_count image
    file_below = holder_below 0 (omega arith)

    pub before_below : (i : ℕ) → ((k : ℕ) → k < i → IsDataBlock image file k (data_before image file k) (data_block image file k)) → data_before image file i < block_count image
    before_below zero sound = file_below
    before_below (suc i) sound = (sound i (omega arith)).inside.1

  -- the pointer block of a data block is among them
  pub holder_there : (xs : List ℕ) (i : ℕ) → xs ≡ (file ∷ extension_blocks image file) ++ map (data_block image file) (range_with_len 0 i) → i < data_needed image file → i / 72 < length xs
  holder_there xs i e l =
      omega (arith, ap length e, length-append (file ∷ extension_blocks image file) (map (data_block image file) (range_with_len 0 i)), length-extensions image file, in_extensions i (data_needed image file) l)

  pub holder_is : (xs : List ℕ) (i d : ℕ) → xs ≡ (file ∷ extension_blocks image file) ++ map (data_block image file) (range_with_len 0 i) → i < data_needed image file → get_or xs (i / 72) d ≡ pointer_block image file (i / 72)
  holder_is xs i d e l =
      let within : i / 72 < length (file ∷ extension_blocks image file) = omega (arith, length-extensions image file, in_extensions i (data_needed image file) l) in
      ap (λ (ys : List ℕ). get_or ys (i / 72) d) e
      ∙ get_or_append_left (file ∷ extension_blocks image file) (map (data_block image file) (range_with_len 0 i)) d (i / 72) within
      ∙ header_or (i / 72) (in_extensions i (data_needed image file) l)
    where
      header_or : (q : ℕ) → q ≤ extensions_needed image file → get_or (file ∷ extension_blocks image file) q d ≡ pointer_block image file q
      header_or q m = same (file ∷ extension_blocks image file) q (omega (arith, m, length-extensions image file)) ∙ header-is image file q m
        where
          same : (ys : List ℕ) (k : ℕ) → k < length ys → get_or ys k d ≡ slice_index ys k
          same [] k l = absurd (omega arith)
          same (y ∷ ys) zero l = refl
          same (y ∷ ys) (suc k) l = same ys k (omega arith)

  pub gathered_more : (xs ys : List ℕ) (i block : ℕ) → xs ≡ (file ∷ extension_blocks image file) ++ map (data_block image file) (range_with_len 0 i) → ys ≡ xs ++ block ∷ [] → block ≡ data_block image file i
      → ys ≡ (file ∷ extension_blocks image file) ++ map (data_block image file) (range_with_len 0 (i + 1))
  gathered_more xs ys i block e more is =
      more ∙ ap (λ (zs : List ℕ). zs ++ block ∷ []) e
      ∙ append_assoc (file ∷ extension_blocks image file) (map (data_block image file) (range_with_len 0 i)) (block ∷ [])
      ∙ ap (λ (b : ℕ). (file ∷ extension_blocks image file) ++ (map (data_block image file) (range_with_len 0 i) ++ b ∷ [])) is
      ∙ ap (λ (zs : List ℕ). (file ∷ extension_blocks image file) ++ zs) (sym (map-range_with_len_more (data_block image file) 0 i i (omega arith)))

  pub all_data : (xs : List ℕ) (i : ℕ) → xs ≡ (file ∷ extension_blocks image file) ++ map (data_block image file) (range_with_len 0 i) → i ≡ data_needed image file
      → xs ≡ (file ∷ extension_blocks image file) ++ data_blocks image file
  unfolding data_blocks
  all_data xs i e l = e ∙ ap (λ (n : ℕ). (file ∷ extension_blocks image file) ++ map (data_block image file) (range_with_len 0 n)) l

  pub whole_data : (i : ℕ) → i ≡ data_needed image file → ((k : ℕ) → k < i → IsDataBlock image file k (data_before image file k) (data_block image file k))
      → (format_of image ≡ Ofs → long image (data_before image file i) NEXT_DATA ≡ 0) → HasData image file
  whole_data i e sound ends = record {
    block = λ k l. sound k (omega (arith, l, e));
    ends = λ ofs. ap (λ (n : ℕ). long image (data_before image file n) NEXT_DATA) (sym e) ∙ ends ofs;
  }

  pub holder_read : (xs : List ℕ) (i holder : ℕ) → xs ≡ (file ∷ extension_blocks image file) ++ map (data_block image file) (range_with_len 0 i) → i < data_needed image file → holder ≡ get_or xs (i / 72) holder → holder ≡ pointer_block image file (i / 72)
  holder_read xs i holder e l is = is ∙ holder_is xs i holder e l

  -- the block in the pointer is the data block
  pub named_block : (xs : List ℕ) (i holder block : ℕ) → xs ≡ (file ∷ extension_blocks image file) ++ map (data_block image file) (range_with_len 0 i) → i < data_needed image file → holder ≡ get_or xs (i / 72) holder
      → block ≡ long image holder (77 - i % 72) → block ≡ data_block image file i
  named_block xs i holder block e l is read = read ∙ ap (λ (b : ℕ). long image b (77 - i % 72)) (holder_read xs i holder e l is)

  -- the data blocks come last among all blocks
  pub own_at : (xs : List ℕ) (n i : ℕ) → xs ≡ own_blocks image file → n ≡ data_needed image file → i < data_needed image file → slice_index xs (length xs - n + i) ≡ data_block image file i
  own_at xs n i e count l =
      let at : length xs - n + i ≡ suc (extensions_needed image file) + i = omega (arith, ap length e, count, length-own image file) in
      ap (λ (ys : List ℕ). slice_index ys (length xs - n + i)) e ∙ ap (slice_index (own_blocks image file)) at ∙ own-data image file i ∙ data-at image file i l

  pub own_behind : (xs : List ℕ) (n : ℕ) → xs ≡ own_blocks image file → n ≡ data_needed image file → take (length xs - (length xs - n)) (drop (length xs - n) xs) ≡ data_blocks image file
  own_behind xs n e count =
      let few : length xs - n ≡ length (file ∷ extension_blocks image file) = omega (arith, ap length e, count, length-own image file, length-extensions image file) in
      let rest : drop (length xs - n) xs ≡ data_blocks image file =
      ap (drop (length xs - n)) e ∙ ap (λ (m : ℕ). drop m (own_blocks image file)) few
      ∙ drop-append-le (length (file ∷ extension_blocks image file)) (file ∷ extension_blocks image file) (data_blocks image file) (omega arith)
      ∙ ap (λ (ys : List ℕ). ys ++ data_blocks image file) (drop_all (length (file ∷ extension_blocks image file)) (file ∷ extension_blocks image file) (omega arith)) in
      ap (take (length xs - (length xs - n))) rest ∙ take_all (length xs - (length xs - n)) (data_blocks image file) (omega (arith, ap length e, count, length-own image file, length-data image file))

  pub own_inside : HasHolders image file → HasData image file → (k : ℕ) → k < length (own_blocks image file) → IsInside (block_count image) (slice_index (own_blocks image file) k)
  own_inside h d k l = elim (cases_lt k (suc (extensions_needed image file))) [
    | inl a ↦ subst (IsInside (block_count image)) (sym (own-header image file k (omega (arith, a)) ∙ header-is image file k (omega (arith, a)))) (h.holder k (omega (arith, a))).inside
    | inr a ↦
        (let i = k - suc (extensions_needed image file) in
        let place : suc (extensions_needed image file) + (k - suc (extensions_needed image file)) ≡ k = omega (arith, a) in
        let below : k - suc (extensions_needed image file) < data_needed image file = omega (arith, a, l, length-own image file) in
        subst (IsInside (block_count image))
        (sym (ap (slice_index (own_blocks image file)) (sym place) ∙ own-data image file (k - suc (extensions_needed image file)) ∙ data-at image file (k - suc (extensions_needed image file)) below))
        (d.block (k - suc (extensions_needed image file)) below).inside)
  ]

  pub own_below : (xs : List ℕ) (n : ℕ) → HasHolders image file → HasData image file → xs ≡ own_blocks image file → n ≡ block_count image → All (λ (block : ℕ). block < n) xs
  own_below xs n h d e size = All-from_get_or (λ (block : ℕ). block < n) xs 0
      (λ i l. omega (arith, size, ap (λ (ys : List ℕ). slice_index ys i) e, (own_inside h d i (omega (arith, l, ap length e))).1))

-- the data blocks of a lawful file are inside the volume
pub data_within : (image : List ℕ) (file : ℕ) → LawfulFile image file → All (λ (block : ℕ). block < block_count image) (data_blocks image file)
data_within image file lawful = All-from_get_or (λ (block : ℕ). block < block_count image) (data_blocks image file) 0 (λ i l. (lawful.places.data_inside i l).1)
