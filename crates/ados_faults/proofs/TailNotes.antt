-- What is known of chains of header and extension blocks that other files have too.
use Rattle.ados_faults.proofs.Common.{flat_map, flat_map-append, ◌≡◌, ℕ, ◌+◌, ◌-◌, ◌<◌, ◌==◌, ◌||◌, not, inl, inr, Bool, true, List, ◌++◌, length, take, drop, slice_index, replicate, set, Option, Some, None, refl, sym, ap, ◌∙◌, subst, arith, length-set, slice_get, cases_eq, cases_lt, eqb-true, false≢true, or_cases, get_or-append-add, length-append, length-replicate, take-append-drop, slice_get-get_or, slice_get_past, block_count, sequence_number, NEXT_EXTENSION, InImage, IsOfs, LinkedOnce, last_link, pointers_of, Sequence, ArePlacesNoted, IsPlaceNoted, AreStillNoted, ArePlacedAt, AreSettled, AreTails, IsTail, IsSummary, is_settled_at}
use Rattle.ados_faults.specs.declared.data_summary.DataSummary.{DataSummary}
use Rattle.ados_faults.specs.declared.tail.Tail.{Tail}
use Rattle.ados_faults.proofs.ByHeaders.{placed_again}
use Rattle.ados_faults.proofs.FileNotes.{placed_on}
use Rattle.ados_faults.proofs.Firsts.{each_after_set, none_there}
use Rattle.ados_faults.proofs.SameLinks.{same_links}
use Rattle.std.proofs.lemmas.Bool.{eq-eqb}

-- what comes after a list
pub get_after : (xs ys : List ℕ) (i : ℕ) → slice_get (xs ++ ys) (length xs + i) ≡ slice_get ys i
get_after xs ys i = elim (cases_lt i (length ys)) [
  | inl l ↦
      slice_get-get_or (xs ++ ys) (length xs + i) 0 (omega (arith, l, length-append xs ys))
      ∙ ap (λ (x : ℕ). Some x) (get_or-append-add xs ys i 0) ∙ sym (slice_get-get_or ys i 0 l)
  | inr past ↦ slice_get_past (xs ++ ys) (length xs + i) (omega (arith, past, length-append xs ys)) ∙ sym (slice_get_past ys i past)
]

-- the data blocks of the first headers, and of those after them
pub flat_parts : (image : List ℕ) (headers : List ℕ) (k : ℕ) → flat_map (pointers_of image) headers ≡ flat_map (pointers_of image) (take k headers) ++ flat_map (pointers_of image) (drop k headers)
flat_parts image headers k = ap (flat_map (pointers_of image)) (sym (take-append-drop k headers)) ∙ flat_map-append (pointers_of image) (take k headers) (drop k headers)

module _ (image : List ℕ) (cells : List Bool) (xs ys : List ℕ) where
  -- the data blocks from a position on, by themselves
  pub placed_alone : ArePlacesNoted image cells (xs ++ ys) (length xs) → ArePlacedAt image cells ys (length xs)
  placed_alone p = record {
    placed = λ i l inside.
        let is : slice_index (xs ++ ys) (length xs + i) ≡ slice_index ys i = get_or-append-add xs ys i 0 in
        let e : length xs + i + 1 ≡ length xs + (i + 1) = omega arith in
        let next : slice_get (xs ++ ys) (length xs + i + 1) ≡ slice_get ys (i + 1) = ap (slice_get (xs ++ ys)) e ∙ get_after xs ys (i + 1) in
        subst (λ (b : ℕ). IsPlaceNoted image cells b (length xs + i) (slice_get ys (i + 1))) is
        (subst (IsPlaceNoted image cells (slice_index (xs ++ ys) (length xs + i)) (length xs + i)) next
        (p.placed (length xs + i) (omega arith) (omega (arith, l, length-append xs ys)) (subst (InImage image) (sym is) inside)));
  }

  -- and together with those before them
  pub placed_together : ArePlacedAt image cells ys (length xs) → ArePlacesNoted image cells (xs ++ ys) (length xs)
  placed_together p = record {
    placed = λ i from l inside.
        let j = i - length xs in
        let e : length xs + j ≡ i = omega (arith, from) in
        let is : slice_index (xs ++ ys) i ≡ slice_index ys j = ap (slice_index (xs ++ ys)) (sym e) ∙ get_or-append-add xs ys j 0 in
        let f : i + 1 ≡ length xs + (j + 1) = omega (arith, from) in
        let next : slice_get (xs ++ ys) (i + 1) ≡ slice_get ys (j + 1) = ap (slice_get (xs ++ ys)) f ∙ get_after xs ys (j + 1) in
        subst (λ (b : ℕ). IsPlaceNoted image cells b i (slice_get (xs ++ ys) (i + 1))) (sym is)
        (subst (IsPlaceNoted image cells (slice_index ys j) i) (sym next)
        (subst (λ (x : ℕ). IsPlaceNoted image cells (slice_index ys j) x (slice_get ys (j + 1))) e
        (p.placed j (omega (arith, l, from, length-append xs ys)) (subst (InImage image) is inside))));
  }

-- data blocks of which all is known at a position
pub placed_anew : (image : List ℕ) (cells : List Bool) (blocks : List ℕ) (old position : ℕ) (settled : Bool) → ArePlacedAt image cells blocks old → (settled ≡ true → AreSettled image cells blocks) → (settled || (old == position)) ≡ true
    → ArePlacedAt image cells blocks position
placed_anew image cells blocks old position settled p s known = record {
  placed = λ i l inside.
      let was = p.placed i l inside in
      placed_again image cells cells (slice_index blocks i) (old + i) (position + i) (slice_get blocks (i + 1)) (record { stay = λ cell e. e }) was
      (λ ne. elim (or_cases settled (old == position) known) [
        | inl both ↦ (s both).each i l inside
        | inr same ↦ was.each Sequence (λ z. ne (z ∙ ap (λ (x : ℕ). x + i + 1) (eqb-true old position same)))
      ]);
}

-- and now at another position
pub settled_anew : (image : List ℕ) (cells : List Bool) (blocks : List ℕ) (old position : ℕ) (settled : Bool) → ArePlacedAt image cells blocks old → (settled ≡ true → AreSettled image cells blocks) → ArePlacedAt image cells blocks position
    → (settled || not (old == position)) ≡ true → AreSettled image cells blocks
settled_anew image cells blocks old position settled p s now known = record {
  each = λ i l inside. elim (or_cases settled (not (old == position)) known) [
    | inl both ↦ (s both).each i l inside
    | inr apart ↦ elim (cases_eq (sequence_number image (slice_index blocks i)) (position + i + 1)) [
      | inr ne ↦ (now.placed i l inside).each Sequence ne
      | inl is ↦ (p.placed i l inside).each Sequence (λ e. other i apart (sym e ∙ is))
    ]
  ];
}
  where
    other : (i : ℕ) → not (old == position) ≡ true → old + i + 1 ≡ position + i + 1 → ⊥
    other i apart e =
        let same : old ≡ position = omega (arith, e) in
        false≢true (sym (ap not (eq-eqb old position same)) ∙ apart)

module _ (image : List ℕ) (cells later : List Bool) (on : AreStillNoted cells later) where
  placed_stays : (blocks : List ℕ) (position : ℕ) → ArePlacedAt image cells blocks position → ArePlacedAt image later blocks position
  placed_stays blocks position p = record { placed = λ i l inside. placed_on image cells later on (slice_index blocks i) (position + i) (slice_get blocks (i + 1)) (p.placed i l inside) }

  pub tail_on : (block : ℕ) (tail : Tail) → IsTail image cells block tail → IsTail image later block tail
  tail_on block tail t = record {
    headers = t.headers;
    linked = t.linked;
    ends = t.ends;
    summed = t.summed;
    placed = λ ofs. placed_stays (flat_map (pointers_of image) t.headers) tail.position (t.placed ofs);
    settled = λ ofs both. record { each = λ i l inside. on.stay _ ((t.settled ofs both).each i l inside) };
  }

  pub all_tails_on : (tails : List (Option Tail)) → AreTails image cells tails → AreTails image later tails
  all_tails_on tails a = record { size = a.size; each = λ block tail e. tail_on block tail (a.each block tail e) }

-- one more chain is known
pub all_tails_more : (image : List ℕ) (cells : List Bool) (tails : List (Option Tail)) (block : ℕ) (new : Tail) → AreTails image cells tails → block < length tails → IsTail image cells block new → AreTails image cells (set tails block (Some new))
all_tails_more image cells tails block new a l this = record {
  size = length-set tails block (Some new) ∙ a.size;
  each = each_after_set (IsTail image cells) tails block new l this a.each;
}

-- no chain is known
pub none_known : (image : List ℕ) (cells : List Bool) (tails : List (Option Tail)) → tails ≡ replicate (block_count image) None → AreTails image cells tails
none_known image cells tails none = record {
  size = ap length none ∙ length-replicate {A = Option Tail} (block_count image) None;
  each = λ block tail e. absurd (none_there (block_count image) tails none block tail e);
}

-- a chain that was checked with others before it, once more or for the first time
pub tail_now : (image : List ℕ) (cells : List Bool) (block : ℕ) (headers : List ℕ) (o : Option Tail) (summary : DataSummary) (position : ℕ) (settled : Bool) → LinkedOnce image NEXT_EXTENSION block headers → ¬ InImage image (last_link image NEXT_EXTENSION headers)
    → IsSummary image (flat_map (pointers_of image) headers) summary → (IsOfs image → ArePlacedAt image cells (flat_map (pointers_of image) headers) position) → ((t : Tail) → o ≡ Some t → IsTail image cells block t)
    → settled ≡ is_settled_at o position → IsTail image cells block (record { summary = summary; position = position; is_settled = settled })
tail_now image cells block headers o summary position settled linked ends summed placed old is = record {
  headers = headers;
  linked = linked;
  ends = ends;
  summed = summed;
  placed = placed;
  settled = λ ofs both. go o ofs old (sym is ∙ both);
}
  where
    go : (o : Option Tail) → IsOfs image → ((t : Tail) → o ≡ Some t → IsTail image cells block t) → is_settled_at o position ≡ true → AreSettled image cells (flat_map (pointers_of image) headers)
    go None ofs old known = absurd (false≢true known)
    go (Some t) ofs old known =
        let was = old t refl in
        let same : was.headers ≡ headers = same_links image NEXT_EXTENSION block was.headers headers was.linked linked in
        settled_anew image cells (flat_map (pointers_of image) headers) t.position position t.is_settled
        (subst (λ (hs : List ℕ). ArePlacedAt image cells (flat_map (pointers_of image) hs) t.position) same (was.placed ofs))
        (λ both. subst (λ (hs : List ℕ). AreSettled image cells (flat_map (pointers_of image) hs)) same (was.settled ofs both)) (placed ofs) known
