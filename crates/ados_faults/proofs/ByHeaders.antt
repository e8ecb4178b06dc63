-- The data blocks of a file, by the blocks whose pointers name them.
use Rattle.ados_faults.proofs.Common.{flat_map, ◌≡◌, ◌≢◌, ℕ, ◌+◌, ◌-◌, ◌*◌, ◌^◌, ◌<◌, ◌≤◌, min, ◌==◌, inl, inr, Bool, true, false, List, [], ◌∷◌, ◌++◌, length, take, drop, slice_index, get_or, replicate, set, Option, Some, None, refl, sym, ap, ◌∙◌, subst, arith, length-set, flat_map-append, sum_by-append, All, slice_get, is_some, cases_eq, cases_lt, eqb-false, eqb-true, false≢true, le-ltb, lt-leb, lt-ltb, or_cases, or_parts, append-nil, drop_more, get_or_append_left, get_or-append-add, take_more, length-append, length-replicate, take-append-drop, All-append, slice_get-get_or, block_count, held_count, pointer, pointer_count, sequence_number, BadSequence, InImage, pointers_of, BreaksRule, kind_of_data, Sequence, AreHeaders, IsPiece, first_in, next_in, AreAllSeen, AreHeld, ArePlacesNoted, HasNext, IsHeaderSeen, IsHeld, IsOneNoted, IsPieceNoted, IsPlaceNoted, is_known, AreStillNoted, cell_of, IsNoted, DataRule, Piece}
use Rattle.ados_model.proofs.FileBlocks.{first_pointers-at, length-first_pointers}
use Rattle.ados_check.proofs.Pointers.{pointers_are}
use Rattle.ados_faults.specs.declared.pieces.Seen.{Seen}
use Rattle.ados_faults.proofs.FileNotes.{placed_on}
use Rattle.ados_faults.proofs.Firsts.{each_after_push, each_after_set, none_there}

-- ---- the pointers of one block

pub pointers_few : (image : List ℕ) (block : ℕ) → pointer_count image block ≤ 72 → length (pointers_of image block) ≡ pointer_count image block
pointers_few image block few = ap length (pointers_are image block few) ∙ length-first_pointers image block (pointer_count image block)

pub pointers_none : (image : List ℕ) (block : ℕ) → 72 < pointer_count image block → length (pointers_of image block) ≡ 0
pointers_none image block many = rw (lt-leb (pointer_count image block) 72 many) refl

-- the pointers that a block has are those of its longs
pub pointer_at : (image : List ℕ) (block i : ℕ) → i < length (pointers_of image block) → slice_index (pointers_of image block) i ≡ pointer image block i
pointer_at image block i l = elim (cases_lt 72 (pointer_count image block)) [
  | inl many ↦ absurd (omega (arith, l, pointers_none image block many))
  | inr few ↦
      ap (λ (xs : List ℕ). slice_index xs i) (pointers_are image block few) ∙ first_pointers-at image block (pointer_count image block) i (omega (arith, l, pointers_few image block few))
]

pub pointers_at_most : (image : List ℕ) (block : ℕ) → length (pointers_of image block) ≤ 72
pointers_at_most image block = elim (cases_lt 72 (pointer_count image block)) [
  | inl many ↦ omega (arith, pointers_none image block many)
  | inr few ↦ omega (arith, few, pointers_few image block few)
]

pub flat_few : (image : List ℕ) (headers : List ℕ) → length (flat_map (pointers_of image) headers) ≤ 72 * length headers
flat_few image [] = omega arith
flat_few image (x ∷ xs) = omega (arith, length-append (pointers_of image x) (flat_map (pointers_of image) xs), pointers_at_most image x, flat_few image xs)

-- ---- one block among the headers

module _ (image : List ℕ) (headers : List ℕ) (k : ℕ) (l : k < length headers) where
  split : flat_map (pointers_of image) headers
      ≡ flat_map (pointers_of image) (take k headers) ++ (pointers_of image (slice_index headers k) ++ flat_map (pointers_of image) (drop (k + 1) headers))
  split =
      ap (flat_map (pointers_of image)) (sym (take-append-drop k headers))
      ∙ flat_map-append (pointers_of image) (take k headers) (drop k headers)
      ∙ ap (λ (xs : List ℕ). flat_map (pointers_of image) (take k headers) ++ flat_map (pointers_of image) xs) (drop_more headers k 0 l)

  pub flat_next : flat_map (pointers_of image) (take (k + 1) headers) ≡ flat_map (pointers_of image) (take k headers) ++ pointers_of image (slice_index headers k)
  flat_next =
      ap (flat_map (pointers_of image)) (take_more headers k 0 l)
      ∙ flat_map-append (pointers_of image) (take k headers) (slice_index headers k ∷ [])
      ∙ ap (λ (xs : List ℕ). flat_map (pointers_of image) (take k headers) ++ xs) (append-nil (pointers_of image (slice_index headers k)))

  pub length_before : length (flat_map (pointers_of image) (take (k + 1) headers)) ≡ length (flat_map (pointers_of image) (take k headers)) + length (pointers_of image (slice_index headers k))
  length_before = ap length flat_next ∙ length-append (flat_map (pointers_of image) (take k headers)) (pointers_of image (slice_index headers k))

  pub within_all : length (flat_map (pointers_of image) (take k headers)) + length (pointers_of image (slice_index headers k)) ≤ length (flat_map (pointers_of image) headers)
  within_all =
      omega (
        arith,
        ap length split,
        length-append (flat_map (pointers_of image) (take k headers)) (pointers_of image (slice_index headers k) ++ flat_map (pointers_of image) (drop (k + 1) headers)),
        length-append (pointers_of image (slice_index headers k)) (flat_map (pointers_of image) (drop (k + 1) headers)),
      )

  pub pointer_there : (i : ℕ) → i < length (pointers_of image (slice_index headers k))
      → slice_index (flat_map (pointers_of image) headers) (length (flat_map (pointers_of image) (take k headers)) + i) ≡ slice_index (pointers_of image (slice_index headers k)) i
  pointer_there i m =
      ap (λ (xs : List ℕ). slice_index xs (length (flat_map (pointers_of image) (take k headers)) + i)) split
      ∙ get_or-append-add (flat_map (pointers_of image) (take k headers)) (pointers_of image (slice_index headers k) ++ flat_map (pointers_of image) (drop (k + 1) headers)) i 0
      ∙ get_or_append_left (pointers_of image (slice_index headers k)) (flat_map (pointers_of image) (drop (k + 1) headers)) 0 i m

-- ---- the bytes that data blocks hold together

pub held_nil : (image : List ℕ) → IsHeld image [] (Some 0)
held_nil image = (λ k d l. absurd (omega (arith, l)), refl)

pub held_append : (image : List ℕ) (xs ys : List ℕ) (a b : ℕ) → IsHeld image xs (Some a) → IsHeld image ys (Some b) → IsHeld image (xs ++ ys) (Some (min (a + b) (2 ^ 64 - 1)))
held_append image xs ys a b x y = (
  All-append (InImage image) xs ys x.0 y.0,
  omega (arith, x.1, y.1, sum_by-append (held_count image) xs ys),
)

-- what is known of a header
pub held_at : (image : List ℕ) (held : List (Option ℕ)) (header : ℕ) → AreHeld image held → header < block_count image → IsHeld image (pointers_of image header) (get_or held header None)
held_at image held header h l = h.each header (get_or held header None) (slice_get-get_or held header None (omega (arith, l, h.size)))

pub none_held : (image : List ℕ) (blocks : List ℕ) (o : Option ℕ) → IsHeld image blocks o → ((x : ℕ) → o ≡ Some x → ⊥) → ¬ All (InImage image) blocks
none_held image blocks None h lacking = h
none_held image blocks (Some x) h lacking = absurd (lacking x refl)

pub held_more : (image : List ℕ) (held : List (Option ℕ)) (n : ℕ) (new : Option ℕ) → length held ≡ n → ((k : ℕ) (sum : Option ℕ) → slice_get held k ≡ Some sum → IsHeld image (pointers_of image k) sum)
    → IsHeld image (pointers_of image n) new → (k : ℕ) (sum : Option ℕ) → slice_get (held ++ new ∷ []) k ≡ Some sum → IsHeld image (pointers_of image k) sum
held_more image held n new size each this = each_after_push (λ (k : ℕ) (sum : Option ℕ). IsHeld image (pointers_of image k) sum) held n new size this each

-- ---- the places of a piece

pub next_of_inner : (image : List ℕ) (piece : Piece) (i : ℕ) → i + 1 < piece.count → next_in image piece i ≡ Some (slice_index (pointers_of image piece.header) (i + 1))
next_of_inner image piece i l = rw (lt-ltb (i + 1) piece.count l) refl

pub next_of_last : (image : List ℕ) (piece : Piece) (i : ℕ) → piece.count ≤ i + 1 → next_in image piece i ≡ piece.next
next_of_last image piece i l = rw (le-ltb (i + 1) piece.count l) refl

-- the next data block of the file
pub next_there : (image : List ℕ) (piece : Piece) (p : IsPiece image piece) (i : ℕ) → i < piece.count → slice_get p.blocks (piece.position + i + 1) ≡ next_in image piece i
next_there image piece p i l = elim (cases_lt (i + 1) piece.count) [
  | inl more ↦
      let e : piece.position + i + 1 ≡ piece.position + (i + 1) = omega arith in
      ap (slice_get p.blocks) e
      ∙ slice_get-get_or p.blocks (piece.position + (i + 1)) 0 (omega (arith, more, p.within))
      ∙ ap (λ (x : ℕ). Some x) (p.there (i + 1) more) ∙ sym (next_of_inner image piece i more)
  | inr last ↦
      let e : piece.position + i + 1 ≡ piece.position + piece.count = omega (arith, l, last) in
      ap (slice_get p.blocks) e ∙ p.next ∙ sym (next_of_last image piece i last)
]

-- the first data block of the file from the piece on
pub first_there : (image : List ℕ) (piece : Piece) (p : IsPiece image piece) → slice_get p.blocks piece.position ≡ first_in image piece
first_there image piece p = elim (cases_lt 0 piece.count) [
  | inl some ↦
      let e : piece.position ≡ piece.position + 0 = omega arith in
      ap (slice_get p.blocks) e
      ∙ slice_get-get_or p.blocks (piece.position + 0) 0 (omega (arith, some, p.within))
      ∙ ap (λ (x : ℕ). Some x) (p.there 0 some) ∙ sym (first_some some)
  | inr none ↦
      let e : piece.position ≡ piece.position + piece.count = omega (arith, none) in
      ap (slice_get p.blocks) e ∙ p.next ∙ sym (first_none none)
]
  where
    first_some : 0 < piece.count → first_in image piece ≡ Some (slice_index (pointers_of image piece.header) 0)
    first_some l = rw (lt-ltb 0 piece.count l) refl

    first_none : piece.count ≤ 0 → first_in image piece ≡ piece.next
    first_none l = rw (le-ltb 0 piece.count l) refl

-- one more piece, from the last to the first
pub places_back : (image : List ℕ) (cells later : List Bool) (piece : Piece) (p : IsPiece image piece) → AreStillNoted cells later → ArePlacesNoted image cells p.blocks (piece.position + piece.count)
    → IsPieceNoted image later piece → ArePlacesNoted image later p.blocks piece.position
places_back image cells later piece p on old this = record { placed = go }
  where
    go : (i : ℕ) → piece.position ≤ i → i < length p.blocks → InImage image (slice_index p.blocks i) → IsPlaceNoted image later (slice_index p.blocks i) i (slice_get p.blocks (i + 1))
    go i from l inside = elim (cases_lt i (piece.position + piece.count)) [
      | inr past ↦ placed_on image cells later on (slice_index p.blocks i) i (slice_get p.blocks (i + 1)) (old.placed i past l inside)
      | inl here ↦
          let j = i - piece.position in
          let e : piece.position + j ≡ i = omega (arith, from) in
          let m : j < piece.count = omega (arith, here, from) in
          let is : slice_index p.blocks i ≡ slice_index (pointers_of image piece.header) j = ap (slice_index p.blocks) (sym e) ∙ p.there j m in
          let next : slice_get p.blocks (i + 1) ≡ next_in image piece j = ap (λ (x : ℕ). slice_get p.blocks (x + 1)) (sym e) ∙ next_there image piece p j m in
          let placed = this.placed j m (subst (InImage image) is inside) in
          subst (λ (b : ℕ). IsPlaceNoted image later b i (slice_get p.blocks (i + 1))) (sym is)
          (subst (IsPlaceNoted image later (slice_index (pointers_of image piece.header) j) i) (sym next)
          (subst (λ (x : ℕ). IsPlaceNoted image later (slice_index (pointers_of image piece.header) j) x (next_in image piece j)) e placed))
    ]

-- the piece of one header
unfoldable pub piece_of : (image : List ℕ) (headers : List ℕ) (k : ℕ) (piece : Piece) → (a : AreHeaders image headers) → k < length headers → piece.header ≡ slice_index headers k → InImage image piece.header
    → piece.count ≡ length (pointers_of image piece.header) → piece.count ≤ 72 → piece.position ≡ length (flat_map (pointers_of image) (take k headers)) → piece.position + piece.count < 2 ^ 62
    → slice_get (flat_map (pointers_of image) headers) (piece.position + piece.count) ≡ piece.next → IsPiece image piece
piece_of image headers k piece a l is inside count few position low next = record {
  inside = inside;
  count = count;
  few = few;
  low = low;
  file = a.file;
  blocks = flat_map (pointers_of image) headers;
  of_file = record { is_file = a.is_file; headers = headers; linked = a.linked; pointed = refl };
  within = omega (arith, within_all image headers k l, position, count, ap (λ (b : ℕ). length (pointers_of image b)) is);
  there = λ i m.
      ap (λ (x : ℕ). slice_index (flat_map (pointers_of image) headers) (x + i)) position
      ∙ pointer_there image headers k l i (omega (arith, m, count, ap (λ (b : ℕ). length (pointers_of image b)) is))
      ∙ ap (λ (b : ℕ). slice_index (pointers_of image b) i) (sym is);
  next = next;
}

-- ---- what is known of a block that was seen

module _ (image : List ℕ) (cells later : List Bool) (on : AreStillNoted cells later) where
  pub one_on : (piece : Piece) (i : ℕ) → IsOneNoted image cells piece i → IsOneNoted image later piece i
  one_on piece i n inside = placed_on image cells later on (slice_index (pointers_of image piece.header) i) (piece.position + i) (next_in image piece i) (n inside)

  piece_on : (piece : Piece) → IsPieceNoted image cells piece → IsPieceNoted image later piece
  piece_on piece n = record { placed = λ i l. one_on piece i (n.placed i l) }

  pub header_on : (header : ℕ) (seen : Seen) → IsHeaderSeen image cells header seen → IsHeaderSeen image later header seen
  header_on header seen h = record {
    header_is = h.header_is;
    count = h.count;
    placed = piece_on seen.piece h.placed;
    settled = λ both i l inside. on.stay (cell_of BadSequence (slice_index (pointers_of image header) i)) (h.settled both i l inside);
  }

  pub all_seen_on : (seen : List (Option Seen)) → AreAllSeen image cells seen → AreAllSeen image later seen
  all_seen_on seen a = record { size = a.size; each = λ header s e. header_on header s (a.each header s e) }

  -- one more block was seen
  pub all_seen_more : (seen : List (Option Seen)) (header : ℕ) (new : Seen) → AreAllSeen image cells seen → header < length seen → IsHeaderSeen image later header new → AreAllSeen image later (set seen header (Some new))
  all_seen_more seen header new a l this = record {
    size = length-set seen header (Some new) ∙ a.size;
    each = each_after_set (IsHeaderSeen image later) seen header new l this (all_seen_on seen a).each;
  }

-- a block whose data blocks were all checked at one position
pub seen_once : (image : List ℕ) (cells : List Bool) (piece : Piece) → IsPiece image piece → IsPieceNoted image cells piece → IsHeaderSeen image cells piece.header (record { piece = piece; is_settled = false })
seen_once image cells piece p n = record { header_is = refl; count = p.count; placed = n; settled = λ e. absurd (false≢true e) }

-- what one shows that was checked with them
one_of : (image : List ℕ) (cells : List Bool) (header : ℕ) (seen : Seen) → IsHeaderSeen image cells header seen → (i : ℕ) → i < length (pointers_of image header) → InImage image (slice_index (pointers_of image header) i)
    → IsPlaceNoted image cells (slice_index (pointers_of image header) i) (seen.piece.position + i) (next_in image seen.piece i)
one_of image cells header seen h i l inside =
    subst (λ (b : ℕ). InImage image (slice_index (pointers_of image b) i) → IsPlaceNoted image cells (slice_index (pointers_of image b) i) (seen.piece.position + i) (next_in image seen.piece i)) h.header_is
    (h.placed.placed i (omega (arith, l, h.count))) inside

-- and now at another one
pub seen_again : (image : List ℕ) (cells later : List Bool) (piece : Piece) (seen : Seen) → AreStillNoted cells later → IsPiece image piece → IsPieceNoted image later piece → IsHeaderSeen image cells piece.header seen
    → seen.piece.position ≢ piece.position → IsHeaderSeen image later piece.header (record { piece = piece; is_settled = true })
seen_again image cells later piece seen on p n old apart = record {
  header_is = refl;
  count = p.count;
  placed = n;
  settled = λ both i l inside.
      let m : i < piece.count = omega (arith, l, p.count) in
      let block = slice_index (pointers_of image piece.header) i in
      elim (cases_eq (sequence_number image block) (piece.position + i + 1)) [
        | inr ne ↦ (n.placed i m inside).each Sequence ne
        | inl is ↦ on.stay (cell_of BadSequence block) ((one_of image cells piece.header seen old i l inside).each Sequence (λ e. apart (other i (sym e ∙ is))))
      ];
}
  where
    other : (i : ℕ) → seen.piece.position + i + 1 ≡ piece.position + i + 1 → seen.piece.position ≡ piece.position
    other i e = omega (arith, e)

-- only the sequence number depends on the position
pub placed_again : (image : List ℕ) (cells later : List Bool) (block old position : ℕ) (next : Option ℕ) → AreStillNoted cells later → IsPlaceNoted image cells block old next
    → (sequence_number image block ≢ position + 1 → IsNoted later (cell_of BadSequence block)) → IsPlaceNoted image later block position next
placed_again image cells later block old position next on was sequence = record { each = go }
  where
    go : (rule : DataRule) → BreaksRule image (record { block = block; position = position; next = next }) rule → IsNoted later (cell_of (kind_of_data rule) block)
    go Sequence h = sequence h
    go rule h = on.stay (cell_of (kind_of_data rule) block) (was.each rule h)

-- at a position where all but the last one were known
module _ (image : List ℕ) (cells later : List Bool) (piece : Piece) (seen : Seen) (on : AreStillNoted cells later) (p : IsPiece image piece) (old : IsHeaderSeen image cells piece.header seen) (known : is_known (Some seen) piece.position ≡ true) where
  at_position : (i : ℕ) → seen.piece.position ≡ piece.position → sequence_number image (slice_index (pointers_of image piece.header) i) ≢ piece.position + i + 1
      → sequence_number image (slice_index (pointers_of image piece.header) i) ≢ seen.piece.position + i + 1
  at_position i e ne z = ne (z ∙ ap (λ (x : ℕ). x + i + 1) e)

  -- with the same data block after it
  same_next : (i : ℕ) → i < piece.count → next_in image seen.piece i ≡ next_in image piece i → IsOneNoted image later piece i
  same_next i l next inside =
      let m : i < length (pointers_of image piece.header) = omega (arith, l, p.count) in
      let block = slice_index (pointers_of image piece.header) i in
      let was = one_of image cells piece.header seen old i m inside in
      placed_again image cells later block (seen.piece.position + i) (piece.position + i) (next_in image piece i) on
      (subst (IsPlaceNoted image cells block (seen.piece.position + i)) next was)
      (λ ne. on.stay (cell_of BadSequence block) (elim (or_cases seen.is_settled (seen.piece.position == piece.position) known) [
        | inl both ↦ old.settled both i m inside
        | inr same ↦ was.each Sequence (at_position i (eqb-true seen.piece.position piece.position same) ne)
      ]))

  same_inner : (i : ℕ) → i + 1 < piece.count → next_in image seen.piece i ≡ next_in image piece i
  same_inner i l =
      next_of_inner image seen.piece i (omega (arith, l, p.count, old.count))
      ∙ ap (λ (b : ℕ). Some (slice_index (pointers_of image b) (i + 1))) old.header_is ∙ sym (next_of_inner image piece i l)

  pub seen_before : 0 < piece.count → IsOneNoted image later piece (piece.count - 1) → IsPieceNoted image later piece
  seen_before some last = record {
    placed = λ i l. elim (cases_lt (i + 1) piece.count) [
      | inr end ↦ let e : piece.count - 1 ≡ i = omega (arith, l, end, some) in subst (IsOneNoted image later piece) e last
      | inl more ↦ same_next i l (same_inner i more)
    ];
  }

  -- and the last one too
  pub seen_all : seen.piece.next ≡ piece.next → IsPieceNoted image later piece
  seen_all same = record {
    placed = λ i l. same_next i l (elim (cases_lt (i + 1) piece.count) [
      | inr end ↦ next_of_last image seen.piece i (omega (arith, end, p.count, old.count)) ∙ same ∙ sym (next_of_last image piece i end)
      | inl more ↦ same_inner i more
    ]);
  }

-- no block was seen
pub none_seen : (image : List ℕ) (cells : List Bool) (seen : List (Option Seen)) → seen ≡ replicate (block_count image) None → AreAllSeen image cells seen
none_seen image cells seen none = record {
  size = ap length none ∙ length-replicate {A = Option Seen} (block_count image) None;
  each = λ header s e. absurd (none_there (block_count image) seen none header s e);
}

-- where a look at the last one is enough
pub known_piece : (image : List ℕ) (cells later : List Bool) (piece : Piece) (seen : List (Option Seen)) (o : Option Seen) → AreStillNoted cells later → IsPiece image piece → 0 < piece.count → AreAllSeen image cells seen
    → slice_get seen piece.header ≡ Some o → is_known o piece.position ≡ true → IsOneNoted image later piece (piece.count - 1) → IsPieceNoted image later piece
known_piece image cells later piece seen None on p some a at known last = absurd (false≢true known)
known_piece image cells later piece seen (Some s) on p some a at known last = seen_before image cells later piece s on p (a.each piece.header s at) known some last

-- where no look is needed
pub settled_piece : (image : List ℕ) (cells : List Bool) (piece : Piece) (seen : List (Option Seen)) (o : Option Seen) → IsPiece image piece → AreAllSeen image cells seen
    → slice_get seen piece.header ≡ Some o → is_known o piece.position ≡ true → HasNext o piece.next → IsPieceNoted image cells piece
settled_piece image cells piece seen o p a at known (s, is, same) =
    seen_all image cells cells piece s (record { stay = λ cell e. e }) p (a.each piece.header s (at ∙ ap (λ (x : Option Seen). Some x) is)) (ap (λ (x : Option Seen). is_known x piece.position) (sym is) ∙ known) same

-- where all were checked
pub seen_now : (image : List ℕ) (cells later : List Bool) (piece : Piece) (seen : List (Option Seen)) (o : Option Seen) (settled : Bool) → AreStillNoted cells later → IsPiece image piece → AreAllSeen image cells seen
    → slice_get seen piece.header ≡ Some o → is_known o piece.position ≡ false → settled ≡ is_some o → IsPieceNoted image later piece
    → IsHeaderSeen image later piece.header (record { piece = piece; is_settled = settled })
seen_now image cells later piece seen None settled on p a at known is n =
    subst (λ (b : Bool). IsHeaderSeen image later piece.header (record { piece = piece; is_settled = b })) (sym is) (seen_once image later piece p n)
seen_now image cells later piece seen (Some s) settled on p a at known is n =
    let apart = eqb-false s.piece.position piece.position (or_parts s.is_settled (s.piece.position == piece.position) known).1 in
    subst (λ (b : Bool). IsHeaderSeen image later piece.header (record { piece = piece; is_settled = b })) (sym is)
    (seen_again image cells later piece s on p n (a.each piece.header s at) apart)

pub first_pointer : (image : List ℕ) (piece : Piece) → IsPiece image piece → 0 < piece.count → first_in image piece ≡ Some (pointer image piece.header 0)
first_pointer image piece p some = rw (lt-ltb 0 piece.count some) (ap (λ (x : ℕ). Some x) (pointer_at image piece.header 0 (omega (arith, some, p.count))))

pub none_first : (image : List ℕ) (piece : Piece) → piece.count ≡ 0 → first_in image piece ≡ piece.next
none_first image piece none = rw (le-ltb 0 piece.count (omega (arith, none))) refl
