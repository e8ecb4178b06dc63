-- An image with whole files shows no fault of a file.
use Rattle.ados_model.proofs.Common.{◌≡◌, ℕ, suc, ◌+◌, ◌-◌, ◌*◌, ◌/◌, ◌<◌, ◌≤◌, min, inl, inr, List, [], ◌∷◌, length, drop, sum_by, slice_index, refl, sym, ap, ◌∙◌, subst, arith, add-one, ◌==◌, if◌then◌else◌, get_or-take, get_or_past, Format, Ofs, Ffs, Chained, long, pointer_count, held_count, format_of, NEXT_EXTENSION, NEXT_DATA, data_count, HasOfsData, IsOfs, IsFile, Reached, AreDataBlocks, IsDataAt, HasPointers, pointers_of}
use Rattle.std.proofs.lemmas.List.Sums.{sum_by-cons}
use Rattle.ados_model.specs.declared.role.Role.TheVariants as roles
use Rattle.ados_model.specs.Faults
use Rattle.ados_model.proofs.FileBlocks.{IsWhole, link_within, data_are, pointers_are}
use Rattle.ados_model.proofs.Standing.{Chained-more}

-- a linked list starts with its first block, or with 0
pub chain_head : (image : List ℕ) (link first : ℕ) (xs : List ℕ) → Chained image link first xs → first ≡ slice_index xs 0
chain_head image link first [] c = c
chain_head image link first (x ∷ xs) c = c.0

-- each block is followed by the next one, or by 0
chain_next : (image : List ℕ) (link first : ℕ) (xs : List ℕ) (k : ℕ) → Chained image link first xs → k < length xs → long image (slice_index xs k) link ≡ slice_index xs (k + 1)
chain_next image link first xs k c l =
    elim (Chained-more image link first xs k c l) [
      | inl g ↦ g.1 ∙ ap (slice_index xs) (sym (add-one k))
      | inr g ↦ g.1 ∙ sym (get_or_past xs (k + 1) 0 (omega (arith, g.0)))
    ]

-- the data blocks of an OFS file hold as many bytes as its size
held_sum : (f : ℕ → ℕ) (blocks : List ℕ) (size : ℕ) → ((i : ℕ) → i < length blocks → f (slice_index blocks i) ≡ min 488 (size - 488 * i)) → size ≤ 488 * length blocks → sum_by f blocks ≡ size
held_sum f [] size h l = omega (arith, l)
held_sum f (x ∷ xs) size h l =
    let rest = held_sum f xs (size - 488) (λ i m. h (suc i) (omega arith) ∙ omega arith) (omega (arith, l)) in
    let first = h 0 (omega arith) in
    sum_by-cons f x xs ∙ omega (arith, rest, first)

-- a file with its lists
pub record WholeFile (image : List ℕ) (file : ℕ) : Type 0 where
  pub blocks : List ℕ
  pub extensions : List ℕ
  pub bytes : List ℕ
  pub whole : IsWhole image file blocks extensions bytes

-- the position of an extension block in the list of its file
pub record ExtensionPlace (image : List ℕ) (file block : ℕ) : Type 0 where
  pub of_file : WholeFile image file
  pub place : ℕ
  pub within : place < length of_file.extensions
  pub here : slice_index of_file.extensions place ≡ block

-- each file of the image is whole, and each extension block has a position in one
pub record AreWhole (image : List ℕ) : Type 0 where
  pub file : (file : ℕ) → IsFile image file → WholeFile image file
  pub extension : (file block : ℕ) → Reached image block (roles.Extension file) → ExtensionPlace image file block

module _ (image : List ℕ) (are : AreWhole image) where
  ofs : IsOfs image → format_of image ≡ Ofs
  ofs o = ap (λ (n : ℕ). if n == 0 then Ofs else Ffs) o

  -- facts about a data block of a file
  record KnownData (file i block : ℕ) (blocks : List ℕ) : Type 0 where
    of_file : WholeFile image file
    same : blocks ≡ of_file.blocks
    within : i < length of_file.blocks
    here : slice_index of_file.blocks i ≡ block

  data_same : (file : ℕ) (f : WholeFile image file) (blocks : List ℕ) → AreDataBlocks image file blocks → blocks ≡ f.blocks
  data_same file f = data_are image file f.blocks f.extensions f.bytes f.whole

  known_data : (file i block : ℕ) (blocks : List ℕ) → IsDataAt image file blocks i block → KnownData file i block blocks
  known_data file i block blocks h =
      let f = are.file file h.of_file.is_file in
      let same = data_same file f blocks h.of_file in
      record {
        of_file = f;
        same = same;
        within = subst (λ (xs : List ℕ). i < length xs) same h.within;
        here = subst (λ (xs : List ℕ). slice_index xs i ≡ block) same h.here;
      }

  ofs_fields : (o : IsOfs image) (file i block : ℕ) (blocks : List ℕ) (h : KnownData file i block blocks) → HasOfsData image file (length h.of_file.bytes) i block
  ofs_fields o file i block blocks h = subst (HasOfsData image file (length h.of_file.bytes) i) h.here (h.of_file.whole.holds.ofs_data (ofs o) i h.within)

  ofs_count : (o : IsOfs image) (file : ℕ) (f : WholeFile image file) → length f.blocks ≡ (length f.bytes + 488 - 1) / 488
  ofs_count o file f = f.whole.data_fits ∙ ap (λ (format : Format). data_count format (length f.bytes)) (ofs o)

  -- ---- the links from data block to data block

  pub first_link : IsOfs image → (file : ℕ) → IsFile image file → long image file NEXT_DATA ≡ slice_index (pointers_of image file) 0
  first_link o file h =
      let f = are.file file h in
      let first = ap (λ (xs : List ℕ). slice_index xs 0) (pointers_are image (format_of image) file f.blocks f.extensions f.bytes f.whole.holds 0 (omega arith)) ∙ get_or-take 72 (drop (72 * 0) f.blocks) 0 0 (omega arith) in
      chain_head image NEXT_DATA (long image file NEXT_DATA) f.blocks (f.whole.holds.ofs_chain (ofs o)) ∙ sym first

  pub next_link : IsOfs image → (file i block : ℕ) (blocks : List ℕ) → IsDataAt image file blocks i block → long image block NEXT_DATA ≡ slice_index blocks (i + 1)
  next_link o file i block blocks h =
      let d = known_data file i block blocks h in
      let f = d.of_file in
      let next = chain_next image NEXT_DATA (long image file NEXT_DATA) f.blocks i (f.whole.holds.ofs_chain (ofs o)) d.within in
      ap (λ (b : ℕ). long image b NEXT_DATA) (sym d.here) ∙ next ∙ ap (λ (xs : List ℕ). slice_index xs (i + 1)) (sym d.same)

  -- ---- the sequence numbers and the counts

  pub no_bad_sequence : (block : ℕ) → Faults.HasBadSequence image block → ⊥
  no_bad_sequence block h =
      let d = known_data h.file h.i block h.blocks h.at in
      h.wrong (ofs_fields h.ofs h.file h.i block h.blocks d).sequence

  -- a block with pointers is the header or an extension block of a file
  record PointerBlock (block : ℕ) : Type 0 where
    file : ℕ
    of_file : WholeFile image file
    place : ℕ
    within : place ≤ length of_file.extensions
    here : slice_index (file ∷ of_file.extensions) place ≡ block

  abbrev of_extension : (file block : ℕ) → ExtensionPlace image file block → PointerBlock block
  of_extension file block e = record { file = file; of_file = e.of_file; place = suc e.place; within = omega (arith, e.within); here = e.here }

  pointer_block : (block : ℕ) → HasPointers image block → PointerBlock block
  pointer_block block (HasPointers.file_pointers h) =
      record { file = block; of_file = are.file block h; place = 0; within = omega arith; here = refl }
  pointer_block block (HasPointers.extension_pointers h) = of_extension h.0 block (are.extension h.0 block h.1)

  counted : (block : ℕ) (p : PointerBlock block) → pointer_count image block ≡ min 72 (length p.of_file.blocks - 72 * p.place)
  counted block p = ap (pointer_count image) (sym p.here) ∙ p.of_file.whole.holds.counts p.place p.within

  pub no_bad_count : (block : ℕ) → Faults.HasBadCount image block → ⊥
  no_bad_count block (Faults.HasBadCount.over h l) = omega (arith, counted block (pointer_block block h), l)
  no_bad_count block (Faults.HasBadCount.not_full h l n) =
      let p = pointer_block block h in
      let f = p.of_file in
      let more = link_within image (format_of image) p.file f.blocks f.extensions f.bytes f.whole.holds p.place p.within (λ z. n (ap (λ (b : ℕ). long image b NEXT_EXTENSION) (sym p.here) ∙ z)) in
      omega (arith, counted block p, l, more, f.whole.extensions_fit)
  no_bad_count block (Faults.HasBadCount.no_pointer h z) =
      let e = are.extension h.0 block h.1 in
      omega (arith, counted block (of_extension h.0 block e), z, e.within, e.of_file.whole.extensions_fit)
  no_bad_count block (Faults.HasBadCount.wrong_size {blocks = blocks} h n) =
      let f = are.file block h.is_file in
      n (ap length (data_same block f blocks h) ∙ f.whole.data_fits ∙ ap (data_count (format_of image)) (sym f.whole.holds.size))
  no_bad_count block (Faults.HasBadCount.held_not_full o h n) =
      let d = known_data h.file h.i block h.blocks h.at in
      let more : h.i + 1 < length d.of_file.blocks = subst (λ (xs : List ℕ). h.i + 1 < length xs) d.same h.followed in
      n ((ofs_fields o h.file h.i block h.blocks d).held ∙ omega (arith, more, ofs_count o h.file d.of_file))
  no_bad_count block (Faults.HasBadCount.held_none {file = file} {i = i} {blocks = blocks} o h z) =
      let d = known_data file i block blocks h in
      omega (arith, (ofs_fields o file i block blocks d).held, z, d.within, ofs_count o file d.of_file)
  no_bad_count block (Faults.HasBadCount.held_over {file = file} {i = i} {blocks = blocks} o h l) =
      let d = known_data file i block blocks h in
      omega (arith, (ofs_fields o file i block blocks d).held, l)
  no_bad_count block (Faults.HasBadCount.wrong_sum o h) =
      let f = are.file block h.of_file.is_file in
      let sum = held_sum (held_count image) f.blocks (length f.bytes) (λ i l. (f.whole.holds.ofs_data (ofs o) i l).held) (omega (arith, ofs_count o block f)) in
      h.wrong (ap (sum_by (held_count image)) (data_same block f h.blocks h.of_file) ∙ sum ∙ sym f.whole.holds.size)
