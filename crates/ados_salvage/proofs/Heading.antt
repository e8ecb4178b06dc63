-- The headers, one by one.
use Rattle.ados_salvage.proofs.KnownCommon.{◌≡◌, ◌≢◌, ℕ, ◌+◌, ◌<◌, ◌≤◌, ◌↔◌, IsTrue, below_more, inl, inr, Bool, true, false, MatchBool, All, AllPairs, List, [], ◌∷◌, ◌++◌, length, slice_index, get_or, get_or-set_same, get_or-set_other, length-set, Contains, refl, sym, ap, ◌∙◌, subst, append_assoc, arith, AreDifferent, different_few, Found, mark_at, set, cases_eq, cases_order, get_or_append_left, get_or_default, get_or_push, length-append, All-push, Contains-append_left, Contains-append_right, all_pairs_push, block_count, IsHeader, IsNamedHeader, IsRoot, IsToldHeader, NamesEntries, of_root, of_sound, of_named, AreFound, AreHeaders, AreSought, FindsMore, IsFound, IsSought}
use Rattle.ados_salvage.proofs.Naming.{header_inside, header_names}

-- one more block was looked at
pub decided_more : (P : ℕ → Type 0) (n : ℕ) (marks more : List Bool) (mark : Bool) → length marks ≡ n → ((block : ℕ) → block < n → IsTrue (mark_at marks block) ↔ P block)
    → more ≡ marks ++ mark ∷ [] → IsTrue mark ↔ P n → (block : ℕ) → block < n + 1 → IsTrue (mark_at more block) ↔ P block
decided_more P n marks more mark size before grown here =
    let Q : ℕ → Type 0 = λ block. IsTrue (mark_at more block) ↔ P block in
    below_more Q n
    (λ block l. subst (λ (b : Bool). IsTrue b ↔ P block) (sym (ap (λ (xs : List Bool). mark_at xs block) grown ∙ get_or_append_left marks (mark ∷ []) false block (omega (arith, l, size)))) (before block l))
    (subst (λ (b : Bool). IsTrue b ↔ P n) (sym (ap (λ (xs : List Bool). mark_at xs n) grown ∙ get_or_push marks mark false n size)) here)

-- more and more
pub finds_on : (out image : List ℕ) (old mid new : Found) → FindsMore out image old mid → FindsMore out image mid new → FindsMore out image old new
finds_on out image old mid new a b = record {
  found = b.found;
  kept = λ block is. b.kept block (a.kept block is);
  more = a.more ++ b.more;
  grown = b.grown ∙ ap (λ (xs : List ℕ). xs ++ b.more) a.grown ∙ append_assoc old.blocks.items a.more b.more;
}

-- one more header
pub finds_one : (out image : List ℕ) (old new : Found) (block : ℕ) → block < length old.marks.items → mark_at old.marks.items block ≡ false → new.marks.items ≡ set old.marks.items block true
    → new.blocks.items ≡ old.blocks.items ++ block ∷ [] → IsHeader out image block → AreFound out image old → FindsMore out image old new
finds_one out image old new block inside free noted grown header f =
    let now : mark_at new.marks.items block ≡ true = ap (λ (marks : List Bool). mark_at marks block) noted ∙ get_or-set_same old.marks.items block true false inside in
    let there : (b : ℕ) → b ≢ block → mark_at new.marks.items b ≡ mark_at old.marks.items b = λ b other. ap (λ (marks : List Bool). mark_at marks b) noted ∙ get_or-set_other old.marks.items block b true false other in
    let kept : (b : ℕ) → IsFound old.marks.items b → IsFound new.marks.items b = λ b is.
    elim (cases_eq b block) [
      | inl e ↦ ap (mark_at new.marks.items) e ∙ now
      | inr e ↦ there b e ∙ is
    ] in
    record {
      found = record {
        size = ap length noted ∙ length-set old.marks.items block true ∙ f.size;
        right = λ b is. elim (cases_eq b block) [
          | inl e ↦ subst (IsHeader out image) (sym e) header
          | inr e ↦ f.right b (sym (there b e) ∙ is)
        ];
        listed = λ b is. subst (λ (xs : List ℕ). Contains xs b) (sym grown) (elim (cases_eq b block) [
          | inl e ↦ Contains-append_right old.blocks.items (block ∷ []) b (0, omega arith, sym e)
          | inr e ↦ Contains-append_left old.blocks.items (block ∷ []) b (f.listed b (sym (there b e) ∙ is))
        ]);
        marked = subst (All (IsFound new.marks.items)) (sym grown) (All-push (IsFound new.marks.items) old.blocks.items block (λ k d l. kept (get_or old.blocks.items k d) (f.marked k d l)) now);
        once = subst (AllPairs (λ a b. a ≢ b)) (sym grown) (all_pairs_push (λ (a : ℕ) (b : ℕ). a ≢ b) old.blocks.items block f.once
            (λ k d l e. let both : true ≡ false = sym (f.marked k d l) ∙ ap (mark_at old.marks.items) e ∙ free in absurd (cc both)));
      };
      kept = kept;
      more = block ∷ [];
      grown = grown;
    }

module _ (out image : List ℕ) (old new : Found) (more : FindsMore out image old new) where
  pub long_sought : (block at : ℕ) → IsSought out image old.marks.items block at → IsSought out image new.marks.items block at
  long_sought block at sought named place is looks = more.kept named (sought named place is looks)

  pub sought_kept : (block : ℕ) → AreSought out image old.marks.items block → AreSought out image new.marks.items block
  sought_kept block sought at = long_sought block at (sought at)

-- the blocks at places of the list that were followed
pub sought_before : (out image : List ℕ) (old new : Found) (n : ℕ) → FindsMore out image old new → n ≤ length old.blocks.items
    → ((k : ℕ) → k < n → AreSought out image old.marks.items (slice_index old.blocks.items k)) → (k : ℕ) → k < n → AreSought out image new.marks.items (slice_index new.blocks.items k)
sought_before out image old new n more there all k l =
    let same : slice_index old.blocks.items k ≡ slice_index new.blocks.items k =
    sym (ap (λ (xs : List ℕ). slice_index xs k) more.grown ∙ get_or_append_left old.blocks.items more.more 0 k (omega (arith, l, there))) in
    subst (AreSought out image new.marks.items) same (sought_kept out image old new more (slice_index old.blocks.items k) (all k l))

-- the list has at most as many blocks as the image
pub few_found : (out image : List ℕ) (found : Found) → AreFound out image found → length found.blocks.items ≤ block_count image
few_found out image found f = different_few (block_count image) found.blocks.items below different
  where
    below : (i : ℕ) → i < length found.blocks.items → slice_index found.blocks.items i < block_count image
    below i l = header_inside out image (slice_index found.blocks.items i) (f.right (slice_index found.blocks.items i) (f.marked i 0 l))

    different : AreDifferent found.blocks.items
    different i j l m e = elim (cases_order i j) [
      | inl same ↦ same
      | inr (inl less) ↦ absurd (f.once i j 0 less m e)
      | inr (inr more) ↦ absurd (f.once j i 0 more l (sym e))
    ]

-- where the root and all marked blocks were followed, each block that can name entries was followed
module _ (out image : List ℕ) (marks : List Bool) (sound : (block : ℕ) → IsToldHeader out image block → IsFound marks block)
    (root : (block : ℕ) → IsRoot image block → AreSought out image marks block) (others : (block : ℕ) → IsFound marks block → AreSought out image marks block) where
  names_sought : {block : ℕ} → NamesEntries out image block → AreSought out image marks block
  names_sought (of_root r) = root _ r
  names_sought (of_sound s) = others _ (sound _ s)
  names_sought (of_named {block} {holder} {at} h place named looks) = others block (names_sought h at block place named looks)

  pub named_found : (block : ℕ) → IsNamedHeader out image block → IsFound marks block
  named_found block d = let n = d.named in names_sought n.accepted n.at block n.place n.named d.header

-- then the marks are right
pub are_headers : (out image : List ℕ) (found : Found) → AreFound out image found → ((block : ℕ) → IsToldHeader out image block → IsFound found.marks.items block)
    → ((block : ℕ) → IsRoot image block → AreSought out image found.marks.items block) → (n : ℕ) → length found.blocks.items ≤ n
    → ((k : ℕ) → k < n → AreSought out image found.marks.items (slice_index found.blocks.items k)) → AreHeaders out image found.marks.items
are_headers out image found f sound root n all followed = record {
  size = f.size;
  decided = λ block l. go (mark_at found.marks.items block) block refl;
}
  where
    others : (block : ℕ) → IsFound found.marks.items block → AreSought out image found.marks.items block
    others block is =
        let at = f.listed block is in
        subst (AreSought out image found.marks.items) (get_or_default found.blocks.items at.0 0 block at.1 ∙ at.2) (followed at.0 (omega (arith, at.1, all)))

    header_found : (block : ℕ) → IsHeader out image block → IsFound found.marks.items block
    header_found block (inl s) = sound block s
    header_found block (inr d) = named_found out image found.marks.items sound root others block d

    go : (mark : Bool) (block : ℕ) → mark_at found.marks.items block ≡ mark → MatchBool mark (IsHeader out image block) (¬ IsHeader out image block)
    go true block is = f.right block is
    go false block is = λ header. let both : true ≡ false = sym (header_found block header) ∙ is in absurd (cc both)

-- the mark of a block, as it is read
pub mark_read : (marks : List Bool) (block : ℕ) (mark : Bool) → block < length marks → mark ≡ get_or marks block mark → mark_at marks block ≡ mark
mark_read marks block mark inside is = get_or_default marks block false mark inside ∙ sym is

-- a block of the list can name entries
pub listed_names : (out image : List ℕ) (found : Found) (k block : ℕ) → AreFound out image found → k < length found.blocks.items → block ≡ get_or found.blocks.items k block → (block < block_count image) × NamesEntries out image block
listed_names out image found k block f l is =
    let header : IsHeader out image block = subst (IsHeader out image) (sym is) (f.right (get_or found.blocks.items k block) (f.marked k block l)) in
    (header_inside out image block header, header_names out image block header)

-- the block at the next place of the list was followed
module _ (out image : List ℕ) (old new : Found) (more : FindsMore out image old new) (k : ℕ) (there : k < length old.blocks.items) where
  pub sought_next : (block : ℕ) → block ≡ get_or old.blocks.items k block → AreSought out image new.marks.items block → AreSought out image new.marks.items (slice_index new.blocks.items k)
  sought_next block is sought =
      subst (AreSought out image new.marks.items)
      (is ∙ get_or_default old.blocks.items k block 0 there ∙ sym (ap (λ (xs : List ℕ). slice_index xs k) more.grown ∙ get_or_append_left old.blocks.items more.more 0 k there)) sought

  pub next_within : k + 1 ≤ length new.blocks.items
  next_within = omega (arith, there, ap length more.grown, length-append old.blocks.items more.more)
