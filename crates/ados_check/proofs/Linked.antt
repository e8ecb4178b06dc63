-- The data blocks of an OFS file, by their links and positions.
use Rattle.ados_check.proofs.Common.{◌≡◌, ◌≢◌, ℕ, zero, suc, ◌+◌, ◌-◌, ◌*◌, ◌/◌, ◌%◌, ◌^◌, ◌<◌, ◌≤◌, ◌⊎◌, inl, inr, min, List, Option, Some, None, MatchOption, length, take, drop, slice_index, All, refl, sym, ap, ap₂, ◌∙◌, subst, arith, sum_by, cases_eq, cases_lt, get_or-take, get_or-drop, take_all, slice_get-get_or, slice_get_past, unwrap_or-slice_get, All-from_get_or, sum_by_more, block_count, long, Chained, pointer, held_count, file_size, format_of, NEXT_DATA, data_count, HasOfsData, pointer_block, chained, InImage, IsOfs, HasBadCount, pointers_of, wrong_sum, IsPlaced, Place, IsSoundData, IsReachedFile, HasCounts, IsLinked, KeepsRules}
use Rattle.std.specs.List.{slice_get}
use Rattle.ados_check.proofs.DataRuling.{few_held, full_held, right_link, right_sequence, some_held}
use Rattle.ados_check.proofs.Headers.{header_inside}
use Rattle.ados_check.proofs.Pointed.{blocks_upto, length-blocks_upto, block-at, part, are_data_blocks, holder_within, is_pointer, data_inside}
use Rattle.ados_check.proofs.SoundFile.{blocks_are}

-- data block k at its place
abbrev pub place_of : List ℕ → ℕ → ℕ → ℕ → Place
place_of image file count k = record { block = slice_index (blocks_upto image file count) k; position = k; next = slice_get (blocks_upto image file count) (k + 1) }

-- data block k keeps the rules of its place
pub record IsPlacedAt (image : List ℕ) (file count k : ℕ) : Type 0 where
  pub kept : KeepsRules image (place_of image file count k)

pub placed : (image : List ℕ) (file count : ℕ) (place : Place) (k : ℕ) → place.position ≡ k → place.block ≡ slice_index (blocks_upto image file count) k → place.next ≡ slice_get (blocks_upto image file count) (k + 1) → KeepsRules image place
    → IsPlacedAt image file count k
placed image file count place k at here next kept = record {
  kept = subst (λ (o : Option ℕ). KeepsRules image (record { block = slice_index (blocks_upto image file count) k; position = k; next = o })) next
      (subst (λ (b : ℕ). KeepsRules image (record { block = b; position = k; next = place.next })) here
      (subst (λ (n : ℕ). KeepsRules image (record { block = place.block; position = n; next = place.next })) at kept));
}

-- ---- the pointer block of the next position

pub next_holder : (image : List ℕ) (file holder next place : ℕ) → holder ≡ pointer_block image file (place / 72) → (place % 72 ≡ 71 → next ≡ long image holder 126) → (place % 72 ≢ 71 → next ≡ holder)
    → next ≡ pointer_block image file ((place + 1) / 72)
next_holder image file holder next place e further same = elim (cases_eq (place % 72) 71) [
  | inl m ↦
      let more : suc (place / 72) ≡ (place + 1) / 72 = omega (arith, m) in
      further m ∙ ap (λ (b : ℕ). long image b 126) e ∙ ap (pointer_block image file) more
  | inr m ↦
      let here : place / 72 ≡ (place + 1) / 72 = omega (arith, m) in
      same m ∙ e ∙ ap (pointer_block image file) here
]

module _ (image : List ℕ) (file count : ℕ) (r : IsReachedFile image file) (h : HasCounts image file count) where
  pub holder_inside : (place : ℕ) → place < count → pointer_block image file (place / 72) < block_count image
  holder_inside place l = header_inside image file r (place / 72) (holder_within image file count r h place l)

  block_inside : (place : ℕ) → place < count → InImage image (slice_index (blocks_upto image file count) place)
  block_inside place l = subst (InImage image) (sym (block-at image file count place l)) (data_inside image file count r h place l)

  -- each data block of an OFS file has the right fields
  pub block_sound : IsOfs image → (place : ℕ) → place < count → IsSoundData image (slice_index (blocks_upto image file count) place) file
  block_sound ofs place l =
      subst (λ (b : ℕ). IsSoundData image b file) (sym (block-at image file count place l))
      (r.data_fields ofs (place / 72) (place % 72) (holder_within image file count r h place l) (is_pointer image file count r h place l))

  -- the block in the pointer at a position, if it has one
  pub named_block : (place holder : ℕ) (found : Option ℕ) → (place < count → holder ≡ pointer_block image file (place / 72)) → MatchOption found (count ≤ place) (λ block. (place < count) × (block ≡ pointer image holder (place % 72)))
      → found ≡ slice_get (blocks_upto image file count) place
  named_block place holder None e past = sym (slice_get_past (blocks_upto image file count) place (omega (arith, past, length-blocks_upto image file count)))
  named_block place holder (Some block) e at =
      let is : block ≡ slice_index (blocks_upto image file count) place = at.1 ∙ ap (λ (b : ℕ). pointer image b (place % 72)) (e at.0) ∙ sym (block-at image file count place at.0) in
      ap (λ (b : ℕ). Some b) is ∙ sym (slice_get-get_or (blocks_upto image file count) place 0 (omega (arith, at.0, length-blocks_upto image file count)))

  pub named_inside : (place block : ℕ) → place < count → block ≡ slice_index (blocks_upto image file count) place → InImage image block
  named_inside place block l e = subst (InImage image) (sym e) (block_inside place l)

  pub is_placed : (place : Place) (k : ℕ) → place.position ≡ k → k < count → place.block ≡ slice_index (blocks_upto image file count) k → place.next ≡ slice_get (blocks_upto image file count) (k + 1) → place.position < 2 ^ 63
      → IsPlaced image place
  is_placed place k at l here next few = record {
    file = file;
    blocks = blocks_upto image file count;
    of_file = are_data_blocks image file count r h;
    within = omega (arith, at, l, length-blocks_upto image file count);
    here = ap (slice_index (blocks_upto image file count)) at ∙ sym here;
    next = ap (λ (n : ℕ). slice_get (blocks_upto image file count) (n + 1)) at ∙ sym next;
    few = few;
  }

  -- the first pointer of the header, or 0
  pub first-is : slice_index (pointers_of image file) 0 ≡ slice_index (blocks_upto image file count) 0
  first-is =
      ap (λ (xs : List ℕ). slice_index xs 0) (part image file count r h 0 (omega arith))
      ∙ get_or-take 72 (drop (72 * 0) (blocks_upto image file count)) 0 0 (omega arith)
      ∙ get_or-drop (72 * 0) (blocks_upto image file count) 0 0

  all_inside : All (InImage image) (blocks_upto image file count)
  all_inside = All-from_get_or (InImage image) (blocks_upto image file count) 0 (λ i l. block_inside i (omega (arith, l, length-blocks_upto image file count)))

  -- a wrong sum of bytes is a fault of the header
  pub sum_shown : IsOfs image → (sum : ℕ) → sum ≡ sum_by (held_count image) (take count (blocks_upto image file count)) → sum ≢ file_size image file → HasBadCount image file
  sum_shown ofs sum e n =
      let whole : take count (blocks_upto image file count) ≡ blocks_upto image file count = take_all count (blocks_upto image file count) (omega (arith, length-blocks_upto image file count)) in
      wrong_sum ofs (record {
        blocks = blocks_upto image file count;
        of_file = are_data_blocks image file count r h;
        inside = all_inside;
        wrong = λ z. n (e ∙ ap (sum_by (held_count image)) whole ∙ z);
      })

  -- ---- the sum of bytes

  pub sum_more : (place sum held : ℕ) → place < count → sum ≡ sum_by (held_count image) (take place (blocks_upto image file count)) → held_count image (slice_index (blocks_upto image file count) place) ≡ held → sum + held ≡ sum_by (held_count image) (take (place + 1) (blocks_upto image file count))
  sum_more place sum held l e is =
      ap₂ (λ (a b : ℕ). a + b) e (sym is) ∙ sym (sum_by_more (held_count image) (blocks_upto image file count) place 0 (omega (arith, l, length-blocks_upto image file count)))

  full_at : ((k : ℕ) → k < count → IsPlacedAt image file count k) → (n : ℕ) → n + 1 < count → held_count image (slice_index (blocks_upto image file count) n) ≡ 488
  full_at places n l =
      full_held image (place_of image file count n) (places n (omega arith)).kept (slice_index (blocks_upto image file count) (n + 1))
      (slice_get-get_or (blocks_upto image file count) (n + 1) 0 (omega (arith, l, length-blocks_upto image file count)))

  -- the data blocks before the last one are full
  full_before : ((k : ℕ) → k < count → IsPlacedAt image file count k) → (n : ℕ) → n < count → sum_by (held_count image) (take n (blocks_upto image file count)) ≡ 488 * n
  full_before places zero l = refl
  full_before places (suc n) l =
      let before = full_before places n (omega arith) in
      let full = full_at places n (omega (arith, l)) in
      let next : n + 1 ≡ suc n = omega arith in
      let more = sum_more n (488 * n) 488 (omega arith) (sym before) full in
      ap (λ (k : ℕ). sum_by (held_count image) (take k (blocks_upto image file count))) (sym next) ∙ sym more ∙ omega arith

  -- by this sum, each block holds the right number of bytes
  held_is : ((k : ℕ) → k < count → IsPlacedAt image file count k) → (size : ℕ) → sum_by (held_count image) (take count (blocks_upto image file count)) ≡ size → (i : ℕ) → i < count → held_count image (slice_index (blocks_upto image file count) i) ≡ min 488 (size - 488 * i)
  held_is places size e i l =
      let last : count - 1 + 1 ≡ count = omega (arith, l) in
      let before = full_before places (count - 1) (omega (arith, l)) in
      let end = places (count - 1) (omega (arith, l)) in
      let held = held_count image (slice_index (blocks_upto image file count) (count - 1)) in
      let more = sum_more (count - 1) (488 * (count - 1)) (held_count image (slice_index (blocks_upto image file count) (count - 1))) (omega (arith, l)) (sym before) refl in
      let total : 488 * (count - 1) + held_count image (slice_index (blocks_upto image file count) (count - 1)) ≡ size =
      more ∙ ap (λ (k : ℕ). sum_by (held_count image) (take k (blocks_upto image file count))) last ∙ e in
      go (cases_lt (i + 1) count) (some_held image (place_of image file count (count - 1)) end.kept) (few_held image (place_of image file count (count - 1)) end.kept) total
    where
      go : (i + 1 < count) ⊎ (count ≤ i + 1) → 0 < held_count image (slice_index (blocks_upto image file count) (count - 1)) → held_count image (slice_index (blocks_upto image file count) (count - 1)) ≤ 488
          → 488 * (count - 1) + held_count image (slice_index (blocks_upto image file count) (count - 1)) ≡ size
          → held_count image (slice_index (blocks_upto image file count) i) ≡ min 488 (size - 488 * i)
      go (inl m) some few total = omega (arith, full_at places i m, some, few, total, m)
      go (inr m) some few total =
          let here : i ≡ count - 1 = omega (arith, l, m) in
          let same : held_count image (slice_index (blocks_upto image file count) i) ≡ held_count image (slice_index (blocks_upto image file count) (count - 1)) = ap (λ (k : ℕ). held_count image (slice_index (blocks_upto image file count) k)) here in
          omega (arith, same, some, few, total, here)

  module _ (ofs : IsOfs image) (size : count ≡ data_count (format_of image) (file_size image file)) where
    pub linked_file : long image file NEXT_DATA ≡ slice_index (pointers_of image file) 0 → ((k : ℕ) → k < count → IsPlacedAt image file count k) → sum_by (held_count image) (take count (blocks_upto image file count)) ≡ file_size image file
        → IsLinked image file
    linked_file first places sum =
        let total = length-blocks_upto image file count in
        let link : (k : ℕ) → k < count → long image (slice_index (blocks_upto image file count) k) NEXT_DATA ≡ slice_index (blocks_upto image file count) (suc k) =
        λ k l.
        let next : k + 1 ≡ suc k = omega arith in
        right_link image (place_of image file count k) (places k l).kept ∙ unwrap_or-slice_get (blocks_upto image file count) (k + 1) 0 ∙ ap (slice_index (blocks_upto image file count)) next in
        record {
          chain = subst (Chained image NEXT_DATA (long image file NEXT_DATA)) (blocks_are image file count size)
              (chained image NEXT_DATA (long image file NEXT_DATA) (blocks_upto image file count) (first ∙ first-is) (λ i l. link i (omega (arith, l, total))));
          fields = subst (λ (xs : List ℕ). (i : ℕ) → i < length xs → HasOfsData image file (file_size image file) i (slice_index xs i)) (blocks_are image file count size)
              (λ i l.
              let below : i < count = omega (arith, l, total) in
              let fields = block_sound ofs i below in
              record {
                primary = fields.primary;
                header = fields.header;
                sequence = right_sequence image (place_of image file count i) (places i below).kept;
                held = held_is places (file_size image file) sum i below;
                sum = fields.sum;
              });
        }
