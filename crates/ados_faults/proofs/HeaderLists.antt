-- The first header and extension blocks of a file, and the chain after them.
use Rattle.ados_faults.proofs.Common.{flat_map, flat_map-append, ◌≡◌, ℕ, ◌+◌, ◌-◌, Bool, true, List, [], ◌∷◌, ◌++◌, length, drop, slice_index, refl, sym, ap, ◌∙◌, subst, arith, Contains, append-nil, get_or, get_or_append_left, length-append, take_all, take_at, NEXT_EXTENSION, InImage, LinkedOnce, last_link, pointers_of, AreLongs, IsChain, ArePlacedAt, ArePlacesNoted, IsHeaderList, IsTail, IsSummary, is_known_at}
use Rattle.ados_faults.specs.declared.header_list.HeaderList.{HeaderList}
use Rattle.ados_faults.specs.declared.data_summary.TheConstants.{NO_DATA_BLOCKS}
use Rattle.ados_faults.specs.declared.tail.Tail.{Tail}
use Rattle.ados_faults.proofs.ByHeaders.{held_nil}
use Rattle.ados_faults.proofs.ChainParts.{joined, last_joined}
use Rattle.ados_faults.proofs.Linking.{chain_whole, last_next}
use Rattle.ados_faults.proofs.OfEach.{number_read}
use Rattle.ados_faults.proofs.TailNotes.{placed_anew, placed_together}
use Rattle.std.proofs.lemmas.List.{drop_all, drop_at}

module _ (image : List ℕ) (cells : List Bool) (file : ℕ) (listed : List ℕ) (list : HeaderList) (c : IsChain image NEXT_EXTENSION listed) (head : slice_index listed 0 ≡ file) (count : list.count ≡ length (flat_map (pointers_of image) listed))
    (next : ℕ) (leads : last_link image NEXT_EXTENSION listed ≡ next) where
  -- all are listed
  pub list_whole : (InImage image next → Contains listed next) → list.rest ≡ NO_DATA_BLOCKS → (list.is_open ≡ true → ¬ InImage image next) → IsHeaderList image cells file listed list
  list_whole back nothing ends = record {
    headers = listed;
    linked = subst (λ (f : ℕ). LinkedOnce image NEXT_EXTENSION f listed) head (chain_whole image NEXT_EXTENSION listed c next leads back);
    within = omega arith;
    same = λ k l. refl;
    count = count ∙ sym (ap (λ (xs : List ℕ). length (flat_map (pointers_of image) xs)) (take_all (length listed) listed (omega arith)));
    summed = subst (IsSummary image (flat_map (pointers_of image) (drop (length listed) listed))) (sym nothing)
        (subst (λ (xs : List ℕ). IsSummary image (flat_map (pointers_of image) xs) NO_DATA_BLOCKS) (sym (drop_all (length listed) listed (omega arith))) (record { count = refl; held = λ ofs. held_nil image; first = λ ofs. refl }));
    places = λ ofs. record { placed = λ i from l inside. absurd (omega (arith, from, l, count)) };
    ends = λ opens there. ends opens (subst (InImage image) leads there);
  }

  -- a known chain comes after them
  pub list_joined : (t : Tail) → IsTail image cells next t → InImage image next → list.rest ≡ t.summary → is_known_at t list.count ≡ true → IsHeaderList image cells file listed list
  list_joined t k inside rest known = record {
    headers = listed ++ k.headers;
    linked = subst (λ (f : ℕ). LinkedOnce image NEXT_EXTENSION f (listed ++ k.headers)) head (joined image NEXT_EXTENSION listed c next leads k.headers k.linked k.ends inside);
    within = omega (arith, length-append listed k.headers);
    same = λ i l. get_or_append_left listed k.headers 0 i l;
    count = count ∙ sym (ap (λ (xs : List ℕ). length (flat_map (pointers_of image) xs)) (take_at listed k.headers (length listed) refl));
    summed = subst (IsSummary image (flat_map (pointers_of image) (drop (length listed) (listed ++ k.headers)))) (sym rest)
        (subst (λ (xs : List ℕ). IsSummary image (flat_map (pointers_of image) xs) t.summary) (sym (drop_at listed k.headers (length listed) refl)) k.summed);
    places = λ ofs.
        let xs = flat_map (pointers_of image) listed in
        let ys = flat_map (pointers_of image) k.headers in
        let now = placed_anew image cells ys t.position list.count t.is_settled (k.placed ofs) (k.settled ofs) known in
        subst (λ (zs : List ℕ). ArePlacesNoted image cells zs list.count) (sym (flat_map-append (pointers_of image) listed k.headers))
        (subst (ArePlacesNoted image cells (xs ++ ys)) (sym count)
        (placed_together image cells xs ys (subst (ArePlacedAt image cells ys) count now)));
    ends = λ opens there. k.ends (subst (InImage image) (last_joined image NEXT_EXTENSION listed c next leads k.headers k.linked k.ends inside) there);
  }

-- the link of the last listed block, as it is read
pub link_read : (image nexts blocks : List ℕ) (n last next : ℕ) → AreLongs image NEXT_EXTENSION nexts → IsChain image NEXT_EXTENSION blocks → n ≡ length blocks → last ≡ get_or blocks (n - 1) last → next ≡ get_or nexts last next
    → last_link image NEXT_EXTENSION blocks ≡ next
link_read image nexts blocks n last next longs c all at is =
    let inside : InImage image last = subst (InImage image) (sym at) (c.inside (n - 1) last (omega (arith, all, c.not_empty))) in
    last_next image NEXT_EXTENSION blocks n last next c.not_empty all at (number_read image _ nexts longs last next inside.1 is)

-- one more block is listed
pub count_next : (image : List ℕ) (blocks : List ℕ) (next : ℕ) → length (flat_map (pointers_of image) (blocks ++ next ∷ [])) ≡ length (flat_map (pointers_of image) blocks) + length (pointers_of image next)
count_next image blocks next =
    ap length (flat_map-append (pointers_of image) blocks (next ∷ []) ∙ ap (λ (xs : List ℕ). flat_map (pointers_of image) blocks ++ xs) (append-nil (pointers_of image next)))
    ∙ length-append (flat_map (pointers_of image) blocks) (pointers_of image next)
