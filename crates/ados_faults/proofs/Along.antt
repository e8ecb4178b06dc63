-- Along the header and extension blocks of a file, from the last to the first.
use Rattle.ados_faults.proofs.Common.{flat_map, ◌≡◌, ℕ, ◌+◌, ◌-◌, ◌*◌, ◌^◌, ◌<◌, ◌≤◌, inl, inr, Bool, true, false, List, Some, None, set, cases_Bool, slice_get-get_or, last_link, is_settled_at, AreTails, IsTail, ◌++◌, length, take, drop, slice_index, get_or, Option, sym, ap, ◌∙◌, subst, arith, drop_more, get_or_default, length-append, length-take-le, slice_get, block_count, NEXT_EXTENSION, InImage, IsFile, IsOfs, LinkedOnce, pointers_of, IsPiece, first_in, ArePlacesNoted, IsHeld, IsPieceNoted, AreStillNoted, ArePlacedAt, IsAlong, IsAlongFile, IsHeaderList, All, AreOfEach}
use Rattle.ados_faults.specs.declared.header_list.HeaderList.{HeaderList}
use Rattle.ados_faults.specs.declared.data_summary.DataSummary.{DataSummary}
use Rattle.ados_faults.specs.declared.tail.Tail.{Tail}
use Rattle.ados_faults.proofs.ByHeaders.{first_there, flat_few, length_before, piece_of, places_back}
use Rattle.ados_faults.proofs.ChainParts.{from_later, last_same, linked_few}
use Rattle.ados_faults.proofs.OfEach.{count_read}
use Rattle.ados_faults.proofs.SameLinks.{same_links}
use Rattle.std.proofs.lemmas.List.{length-drop}
use Rattle.ados_faults.proofs.TailNotes.{all_tails_more, flat_parts, get_after, placed_alone, tail_now}

-- where it starts
pub along_list : (image : List ℕ) (cells : List Bool) (file : ℕ) (listed : List ℕ) (list : HeaderList) (n : ℕ) → IsHeaderList image cells file listed list → n ≡ length listed → IsAlongFile image cells file n list.count list.rest
along_list image cells file listed list n f is headers linked =
    let same : f.headers ≡ headers = same_links image NEXT_EXTENSION file f.headers headers f.linked linked in
    subst (λ (hs : List ℕ). IsAlong image cells hs n list.count list.rest) same
    (subst (λ (k : ℕ). IsAlong image cells f.headers k list.count list.rest) (sym is) (record { position_is = f.count; summed = f.summed; places = f.places }))

-- the block that is looked at is one of the file, and what comes after its data blocks is known
pub record IsHere (image : List ℕ) (cells : List Bool) (file : ℕ) (headers : List ℕ) (k position : ℕ) (summary : DataSummary) (header count less : ℕ) : Type 0 where
  pub is_file : IsFile image file
  pub linked : LinkedOnce image NEXT_EXTENSION file headers
  pub few : length headers ≤ block_count image
  pub small : block_count image < 2 ^ 32
  pub within : k < length headers
  pub along : IsAlong image cells headers (k + 1) position summary
  pub header_is : header ≡ slice_index headers k
  pub count_is : count ≡ length (pointers_of image header)
  pub fits : count ≤ 72
  pub less_is : less ≡ count
  pub inside : InImage image header

pub here_now : (image : List ℕ) (cells before : List Bool) (file : ℕ) (listed : List ℕ) (list : HeaderList) (counts : List ℕ) (n passed header count less position : ℕ) (summary : DataSummary) → IsFile image file → (f : IsHeaderList image before file listed list)
    → All (InImage image) listed → AreOfEach image (λ block. length (pointers_of image block)) counts → block_count image < 2 ^ 32 → n ≡ length listed → passed < n → header ≡ get_or listed (n - 1 - passed) header → count ≡ get_or counts header count → less ≡ count
    → IsAlongFile image cells file (length listed - passed) position summary → IsHere image cells file f.headers (length listed - (passed + 1)) position summary header count less
here_now image cells before file listed list counts n passed header count less position summary is_file f all_inside of_each small all l at read less_is along = record {
  is_file = is_file;
  linked = f.linked;
  few = linked_few image NEXT_EXTENSION file f.headers f.linked file_inside;
  small = small;
  within = omega (arith, f.within, all, l);
  along = subst (λ (k : ℕ). IsAlong image cells f.headers k position summary) next (along f.headers f.linked);
  header_is = there ∙ sym (f.same (length listed - (passed + 1)) (omega (arith, all, l)));
  count_is = own.0;
  fits = own.1;
  less_is = less_is;
  inside = inside;
}
  where
    next : length listed - passed ≡ length listed - (passed + 1) + 1
    next = omega (arith, all, l)

    place : n - 1 - passed ≡ length listed - (passed + 1)
    place = omega (arith, all, l)

    there : header ≡ slice_index listed (length listed - (passed + 1))
    there = at ∙ get_or_default listed (n - 1 - passed) header 0 (omega (arith, all, l)) ∙ ap (slice_index listed) place

    inside : InImage image header
    inside = subst (InImage image) (sym there) (all_inside (length listed - (passed + 1)) 0 (omega (arith, all, l)))

    file_inside : InImage image file
    file_inside = subst (InImage image) (sym (f.same 0 (omega (arith, all, l))) ∙ f.linked.head) (all_inside 0 0 (omega (arith, all, l)))

    own : (count ≡ length (pointers_of image header)) × (count ≤ 72)
    own = count_read image counts of_each header count inside.1 read

module _ (image : List ℕ) (cells : List Bool) (file : ℕ) (headers : List ℕ) (k position : ℕ) (summary : DataSummary) (header count less : ℕ) (h : IsHere image cells file headers k position summary header count less) where
  more : length (flat_map (pointers_of image) (take (k + 1) headers)) ≡ length (flat_map (pointers_of image) (take k headers)) + count
  more = length_before image headers k h.within ∙ ap (λ (b : ℕ). length (flat_map (pointers_of image) (take k headers)) + length (pointers_of image b)) (sym h.header_is) ∙ ap (λ (n : ℕ). length (flat_map (pointers_of image) (take k headers)) + n) (sym h.count_is)

  pub enough : less ≤ position
  enough = omega (arith, h.less_is, h.along.position_is, more)

  pub summary_few : summary.count ≤ 72 * block_count image
  summary_few = omega (arith, h.along.summed.count, flat_few image (drop (k + 1) headers), length-drop (k + 1) headers, h.few)

  at : position - less ≡ length (flat_map (pointers_of image) (take k headers))
  at = omega (arith, h.less_is, h.along.position_is, more)

  back : position - less + count ≡ position
  back = omega (arith, h.less_is, enough)

  -- its data blocks come after those of the blocks before it
  pub piece_along : IsOfs image → IsPiece image (record { header = header; count = count; position = position - less; next = summary.first })
  piece_along ofs =
      piece_of image headers k (record { header = header; count = count; position = position - less; next = summary.first }) (record { file = file; is_file = h.is_file; linked = h.linked }) h.within h.header_is h.inside h.count_is h.fits at
      (omega (arith, back, h.along.position_is, flat_few image (take (k + 1) headers), length-take-le (k + 1) headers (omega (arith, h.within)), h.few, h.small))
      (ap (slice_get (flat_map (pointers_of image) headers)) (back ∙ h.along.position_is)
      ∙ ap (λ (xs : List ℕ). slice_get xs (length (flat_map (pointers_of image) (take (k + 1) headers)))) (flat_parts image headers (k + 1))
      ∙ first_after ∙ h.along.summed.first ofs)
    where
      first_after : slice_get (flat_map (pointers_of image) (take (k + 1) headers) ++ flat_map (pointers_of image) (drop (k + 1) headers)) (length (flat_map (pointers_of image) (take (k + 1) headers)))
          ≡ slice_get (flat_map (pointers_of image) (drop (k + 1) headers)) 0
      first_after =
          let z : length (flat_map (pointers_of image) (take (k + 1) headers)) ≡ length (flat_map (pointers_of image) (take (k + 1) headers)) + 0 = omega arith in
          ap (slice_get (flat_map (pointers_of image) (take (k + 1) headers) ++ flat_map (pointers_of image) (drop (k + 1) headers))) z
          ∙ get_after (flat_map (pointers_of image) (take (k + 1) headers)) (flat_map (pointers_of image) (drop (k + 1) headers)) 0

  one_more : flat_map (pointers_of image) (drop k headers) ≡ pointers_of image header ++ flat_map (pointers_of image) (drop (k + 1) headers)
  one_more = ap (flat_map (pointers_of image)) (drop_more headers k 0 h.within) ∙ ap (λ (b : ℕ). pointers_of image b ++ flat_map (pointers_of image) (drop (k + 1) headers)) (sym h.header_is)

  -- with the data blocks of this one
  pub along_more : (later : List Bool) (added : ℕ) (held : Option ℕ) (first : Option ℕ) → added ≡ count → AreStillNoted cells later
      → (IsOfs image → IsPieceNoted image later (record { header = header; count = count; position = position - less; next = summary.first }))
      → (IsOfs image → first ≡ first_in image (record { header = header; count = count; position = position - less; next = summary.first }))
      → (IsOfs image → IsHeld image (flat_map (pointers_of image) (drop (k + 1) headers)) summary.held → IsHeld image (pointers_of image header ++ flat_map (pointers_of image) (drop (k + 1) headers)) held)
      → IsAlong image later headers k (position - less) (record { count = summary.count + added; held = held; first = first })
  unfolding piece_along piece_of
  along_more later added held first added_is on noted first_is held_is = record {
    position_is = at;
    summed = record {
      count = omega (arith, added_is, h.along.summed.count, h.count_is, ap length one_more, length-append (pointers_of image header) (flat_map (pointers_of image) (drop (k + 1) headers)));
      held = λ ofs. subst (λ (xs : List ℕ). IsHeld image xs held) (sym one_more) (held_is ofs (h.along.summed.held ofs));
      first = λ ofs. first_now ofs;
    };
    places = λ ofs.
        places_back image cells later (record { header = header; count = count; position = position - less; next = summary.first }) (piece_along ofs) on
        (subst (ArePlacesNoted image cells (flat_map (pointers_of image) headers)) (sym back) (h.along.places ofs)) (noted ofs);
  }
    where
      first_now : IsOfs image → slice_get (flat_map (pointers_of image) (drop k headers)) 0 ≡ first
      first_now ofs =
          let z : length (flat_map (pointers_of image) (take k headers)) + 0 ≡ position - less = omega (arith, at) in
          sym (get_after (flat_map (pointers_of image) (take k headers)) (flat_map (pointers_of image) (drop k headers)) 0)
          ∙ ap (λ (xs : List ℕ). slice_get xs (length (flat_map (pointers_of image) (take k headers)) + 0)) (sym (flat_parts image headers k))
          ∙ ap (slice_get (flat_map (pointers_of image) headers)) z
          ∙ first_there image (record { header = header; count = count; position = position - less; next = summary.first }) (piece_along ofs) ∙ sym (first_is ofs)

-- what was noted of the data blocks from one on, by themselves
pub placed_of : (image : List ℕ) (cells : List Bool) (headers : List ℕ) (k position : ℕ) (summary : DataSummary) → IsAlong image cells headers k position summary → IsOfs image → ArePlacedAt image cells (flat_map (pointers_of image) (drop k headers)) position
placed_of image cells headers k position summary a ofs =
    subst (ArePlacedAt image cells (flat_map (pointers_of image) (drop k headers))) (sym a.position_is)
    (placed_alone image cells (flat_map (pointers_of image) (take k headers)) (flat_map (pointers_of image) (drop k headers))
    (subst (ArePlacesNoted image cells (flat_map (pointers_of image) (take k headers) ++ flat_map (pointers_of image) (drop k headers))) a.position_is
    (subst (λ (xs : List ℕ). ArePlacesNoted image cells xs position) (flat_parts image headers k) (a.places ofs))))

-- the chains that are known with this one
pub kept_tails : (image : List ℕ) (cells : List Bool) {before : List Bool} (file : ℕ) (listed : List ℕ) (list : HeaderList) (f : IsHeaderList image before file listed list) (k position : ℕ) (summary : DataSummary) (tails later : List (Option Tail)) (header : ℕ) → k < length f.headers
    → InImage image header → header ≡ slice_index f.headers k → AreTails image cells tails → IsAlong image cells f.headers k position summary
    → (list.is_open ≡ true → (settled : Bool) × (settled ≡ is_settled_at (get_or tails header None) position) × (later ≡ set tails header (Some (record { summary = summary; position = position; is_settled = settled }))))
    → (list.is_open ≡ false → later ≡ tails) → AreTails image cells later
kept_tails image cells file listed list f k position summary tails later header l inside is t a kept same = elim (cases_Bool list.is_open) [
  | inr closed ↦ subst (AreTails image cells) (sym (same closed)) t
  | inl opens ↦
      let now = kept opens in
      let new : Tail = record { summary = summary; position = position; is_settled = now.0 } in
      let within : header < length tails = omega (arith, inside.1, t.size) in
      let linked : LinkedOnce image NEXT_EXTENSION header (drop k f.headers) =
      subst (λ (b : ℕ). LinkedOnce image NEXT_EXTENSION b (drop k f.headers)) (sym is) (from_later image NEXT_EXTENSION file f.headers f.linked (f.ends opens) k l) in
      let ends : ¬ InImage image (last_link image NEXT_EXTENSION (drop k f.headers)) = λ there. f.ends opens (subst (InImage image) (last_same image NEXT_EXTENSION file f.headers f.linked (f.ends opens) k l) there) in
      let tail : IsTail image cells header new =
      tail_now image cells header (drop k f.headers) (get_or tails header None) summary position now.0 linked ends a.summed (placed_of image cells f.headers k position summary a)
      (λ old e. t.each header old (slice_get-get_or tails header None within ∙ ap (λ (x : Option Tail). Some x) e)) now.1 in
      subst (AreTails image cells) (sym now.2) (all_tails_more image cells tails header new t within tail)
]
