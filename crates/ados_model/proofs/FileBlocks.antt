-- The blocks that a file's pointers reach in an image are those in its lists.
use Rattle.ados_model.proofs.Common.{◌≡◌, ◌≢◌, ℕ, zero, suc, ◌+◌, ◌-◌, ◌*◌, ◌/◌, ◌%◌, ◌<◌, ◌≤◌, min, ◌⊎◌, inl, inr, List, [], ◌∷◌, ◌++◌, length, take, drop, flat_map, slice_index, refl, sym, ap, ap₂, ◌∙◌, subst, arith, add-one, le-leb, cases_lt, get_or_default, ext_get_or, nil_from_length, length_push, get_or_push, get_or_append_left, length-take, length-drop, get_or-take, get_or-drop, drop-drop, take-append-drop, Format, Chained, long, pointer, pointer_count, format_of, NEXT_EXTENSION, data_count, extension_count, HasFile, InImage, LinkedOnce, first_pointers, pointers_of, AreDataBlocks}
use Rattle.ados_model.proofs.Standing.{Chained-first, Chained-more}

pub length-first_pointers : (image : List ℕ) (block n : ℕ) → length (first_pointers image block n) ≡ n
length-first_pointers image block zero = refl
length-first_pointers image block (suc n) = length_push (first_pointers image block n) (pointer image block n) ∙ omega (arith, length-first_pointers image block n)

pub first_pointers-at : (image : List ℕ) (block n i : ℕ) → i < n → slice_index (first_pointers image block n) i ≡ pointer image block i
first_pointers-at image block zero i l = absurd (omega arith)
first_pointers-at image block (suc n) i l = go (first_pointers-at image block n i) (cases_lt i n)
  where
    go : (i < n → slice_index (first_pointers image block n) i ≡ pointer image block i) → (i < n) ⊎ (n ≤ i) → slice_index (first_pointers image block (suc n)) i ≡ pointer image block i
    go below (inl m) = get_or_append_left (first_pointers image block n) (pointer image block n ∷ []) 0 i (omega (arith, length-first_pointers image block n)) ∙ below m
    go below (inr m) =
        let here : n ≡ i = omega arith in
        get_or_push (first_pointers image block n) (pointer image block n) 0 i (length-first_pointers image block n ∙ here) ∙ ap (pointer image block) here

-- a list cut into parts of 72 is the concatenation of the parts
pub chunks : (f : ℕ → List ℕ) (hs blocks : List ℕ) → ((i : ℕ) → i < length hs → f (slice_index hs i) ≡ take 72 (drop (72 * i) blocks)) → length blocks ≤ 72 * length hs → flat_map f hs ≡ blocks
chunks f [] blocks h l = sym (nil_from_length blocks (omega (arith, l)))
chunks f (x ∷ hs) blocks h l =
    let rest = chunks f hs (drop 72 blocks)
    (λ i m. h (suc i) (omega arith) ∙ ap (take 72) (ap (λ (n : ℕ). drop n blocks) (omega arith) ∙ sym (drop-drop (72 * i) 72 blocks)))
    (omega (arith, l, length-drop 72 blocks)) in
    ap₂ (λ (xs ys : List ℕ). xs ++ ys) (h 0 (omega arith)) rest ∙ take-append-drop 72 blocks

module _ (image : List ℕ) (format : Format) (file : ℕ) (blocks extensions bytes : List ℕ) (h : HasFile image format file blocks extensions bytes) where
  -- a header block is followed by the next extension block
  link_is : (i : ℕ) → i < length extensions → long image (slice_index (file ∷ extensions) i) NEXT_EXTENSION ≡ slice_index extensions i
  link_is zero l = go extensions h.chain l
    where
      go : (xs : List ℕ) → Chained image NEXT_EXTENSION (long image file NEXT_EXTENSION) xs → 0 < length xs → long image file NEXT_EXTENSION ≡ slice_index xs 0
      go [] c l = absurd (omega arith)
      go (x ∷ xs) c l = c.0
  link_is (suc i) l =
      elim (Chained-more image NEXT_EXTENSION (long image file NEXT_EXTENSION) extensions i h.chain (omega arith)) [
        | inl g ↦ g.1
        | inr g ↦ absurd (omega (arith, g.0, l))
      ]

  -- the last one is followed by none
  pub link_within : (i : ℕ) → i ≤ length extensions → long image (slice_index (file ∷ extensions) i) NEXT_EXTENSION ≢ 0 → i < length extensions
  link_within zero l n = (Chained-first image NEXT_EXTENSION (long image file NEXT_EXTENSION) extensions h.chain n).0
  link_within (suc i) l n =
      elim (Chained-more image NEXT_EXTENSION (long image file NEXT_EXTENSION) extensions i h.chain (omega arith)) [
        | inl g ↦ g.0
        | inr g ↦ absurd (n g.1)
      ]

  -- the pointers of a header block are its part of the file's data blocks
  pub pointers_are : (q : ℕ) → q ≤ length extensions → pointers_of image (slice_index (file ∷ extensions) q) ≡ take 72 (drop (72 * q) blocks)
  pointers_are q l =
      let block = slice_index (file ∷ extensions) q in
      let counted = h.counts q l in
      let few : pointer_count image block ≤ 72 = omega (arith, counted) in
      let lengths : length (first_pointers image block (pointer_count image block)) ≡ length (take 72 (drop (72 * q) blocks)) =
      length-first_pointers image block (pointer_count image block) ∙ counted
      ∙ sym (length-take 72 (drop (72 * q) blocks) ∙ ap (min 72) (length-drop (72 * q) blocks)) in
      let at_each : (i : ℕ) → i < length (first_pointers image block (pointer_count image block)) → slice_index (first_pointers image block (pointer_count image block)) i ≡ slice_index (take 72 (drop (72 * q) blocks)) i = λ i m.
      let below : i < pointer_count image block = omega (arith, m, length-first_pointers image block (pointer_count image block)) in
      let small : i < 72 = omega (arith, below, few) in
      let within : 72 * q + i < length blocks = omega (arith, below, counted) in
      let quotient : (72 * q + i) / 72 ≡ q = omega (arith, small) in
      let remainder : (72 * q + i) % 72 ≡ i = omega (arith, small) in
      first_pointers-at image block (pointer_count image block) i below
      ∙ ap₂ (λ (a b : ℕ). pointer image (slice_index (file ∷ extensions) a) b) (sym quotient) (sym remainder)
      ∙ h.pointers (72 * q + i) within
      ∙ sym (get_or-take 72 (drop (72 * q) blocks) i 0 small ∙ get_or-drop (72 * q) blocks i 0) in
      rw (le-leb (pointer_count image block) 72 few) (ext_get_or 0 _ _ lengths at_each)

-- a file with as many blocks as its size needs; its extension blocks are inside the image, and they and its header are
-- distinct
pub record IsWhole (image : List ℕ) (file : ℕ) (blocks extensions bytes : List ℕ) : Type 0 where
  pub holds : HasFile image (format_of image) file blocks extensions bytes
  pub data_fits : length blocks ≡ data_count (format_of image) (length bytes)
  pub extensions_fit : length extensions ≡ extension_count (length blocks)
  pub inside : (i : ℕ) → i < length extensions → InImage image (slice_index extensions i)
  pub once : (p q : ℕ) → p ≤ length extensions → q ≤ length extensions → slice_index (file ∷ extensions) p ≡ slice_index (file ∷ extensions) q → p ≡ q

module _ (image : List ℕ) (file : ℕ) (blocks extensions bytes : List ℕ) (w : IsWhole image file blocks extensions bytes) where
  module _ (headers : List ℕ) (once : LinkedOnce image NEXT_EXTENSION file headers) where
    headers_at : (i : ℕ) → i < length headers → (i ≤ length extensions) × (slice_index headers i ≡ slice_index (file ∷ extensions) i)
    headers_at zero l = (omega arith, once.head)
    headers_at (suc i) l =
        let before = headers_at i (omega arith) in
        let more : i + 1 < length headers = omega arith in
        let linked = once.linked i more in
        let inside = once.inside i more in
        let link : long image (slice_index (file ∷ extensions) i) NEXT_EXTENSION ≡ slice_index headers (i + 1) = ap (λ (b : ℕ). long image b NEXT_EXTENSION) (sym before.1) ∙ linked in
        let within = link_within image (format_of image) file blocks extensions bytes w.holds i before.0 (λ z. omega (arith, inside.0, link, z)) in
        (within, ap (slice_index headers) (sym (add-one i)) ∙ sym link ∙ link_is image (format_of image) file blocks extensions bytes w.holds i within)

    -- an extension block after the last of the headers would be one of them
    no_more : length headers - 1 < length extensions → ⊥
    no_more l =
        let last = headers_at (length headers - 1) (omega (arith, once.not_empty)) in
        let link : long image (slice_index headers (length headers - 1)) NEXT_EXTENSION ≡ slice_index extensions (length headers - 1) = ap (λ (b : ℕ). long image b NEXT_EXTENSION) last.1 ∙ link_is image (format_of image) file blocks extensions bytes w.holds (length headers - 1) l in
        let again = once.whole (subst (InImage image) (sym link) (w.inside (length headers - 1) l)) in
        let place = headers_at again.0 again.1 in
        let same : slice_index (file ∷ extensions) again.0 ≡ slice_index (file ∷ extensions) (suc (length headers - 1)) = sym place.1 ∙ get_or_default headers again.0 0 _ again.1 ∙ again.2 ∙ link in
        let places = w.once again.0 (suc (length headers - 1)) place.0 (omega (arith, l)) same in
        let below : again.0 < length headers = again.1 in
        omega (arith, places, below)

    headers_are : headers ≡ file ∷ extensions
    headers_are =
        let last = headers_at (length headers - 1) (omega (arith, once.not_empty)) in
        let lengths : length headers ≡ suc (length extensions) = go (cases_lt (length headers - 1) (length extensions)) last.0 in
        ext_get_or 0 headers (file ∷ extensions) lengths (λ i l. (headers_at i l).1)
      where
        go : (length headers - 1 < length extensions) ⊎ (length extensions ≤ length headers - 1) → length headers - 1 ≤ length extensions → length headers ≡ suc (length extensions)
        go (inl l) m = absurd (no_more l)
        go (inr l) m = omega (arith, l, m, once.not_empty)

  -- the data blocks that a file's pointers reach
  pub data_are : (reached : List ℕ) → AreDataBlocks image file reached → reached ≡ blocks
  data_are reached h =
      let enough : length blocks ≤ 72 * suc (length extensions) = omega (arith, w.extensions_fit) in
      h.pointed
      ∙ ap (flat_map (pointers_of image)) (headers_are h.headers h.linked)
      ∙ chunks (pointers_of image) (file ∷ extensions) blocks (λ i l. pointers_are image (format_of image) file blocks extensions bytes w.holds i (omega arith)) enough
