-- A block among the data blocks of a file is reached as one.
use Rattle.ados_faults.proofs.Common.{Contains, ◌≡◌, ℕ, zero, suc, ◌+◌, ◌<◌, ◌⊎◌, inl, inr, List, [], ◌∷◌, length, slice_index, sym, ap, ◌∙◌, subst, arith, add-one, flat_map, cases_lt, get_or_default, Contains-append_cases, Contains-get_or, long, pointer, pointer_count, NEXT_EXTENSION, Data, Extension, InImage, IsDataAt, IsFile, LinkedOnce, Reached, pointers_of, header_pointer, first_extension, extension_pointer, further_extension, named, Contains-here, Contains-later, Contains-nil}
use Rattle.ados_faults.proofs.ByHeaders.{pointer_at, pointers_few, pointers_none}

-- an element of a concatenation is in one of its lists
pub in_joined : (f : ℕ → List ℕ) (xs : List ℕ) (y : ℕ) → Contains (flat_map f xs) y → (x : ℕ) × Contains xs x × Contains (f x) y
in_joined f [] y m = absurd (Contains-nil y m)
in_joined f (x ∷ xs) y m = elim (Contains-append_cases (f x) (flat_map f xs) y m) [
  | inl here ↦ (x, Contains-here x xs, here)
  | inr later ↦ let r = in_joined f xs y later in (r.0, Contains-later x xs r.0 r.1, r.2)
]

-- the block has pointers of the file: it is its header or one of its extension blocks
abbrev PointsFor : List ℕ → ℕ → ℕ → Type 0
PointsFor image file block = ((block ≡ file) × IsFile image block) ⊎ Reached image block (Extension file)

module _ (image : List ℕ) where
  -- the blocks along the links from a file's header have pointers of the file
  points_for : (file : ℕ) (headers : List ℕ) → IsFile image file → LinkedOnce image NEXT_EXTENSION file headers
      → (k : ℕ) → k < length headers → PointsFor image file (slice_index headers k)
  points_for file headers f l zero within = inl (l.head, subst (IsFile image) (sym l.head) f)
  points_for file headers f l (suc k) within =
      let holder = slice_index headers k in
      let next : slice_index headers (k + 1) ≡ slice_index headers (suc k) = ap (slice_index headers) (add-one k) in
      let link : long image holder NEXT_EXTENSION ≡ slice_index headers (suc k) = l.linked k (omega (arith, within)) ∙ next in
      let inside : InImage image (long image holder NEXT_EXTENSION) = subst (InImage image) (sym (l.linked k (omega (arith, within)))) (l.inside k (omega (arith, within))) in
      let more : long image holder NEXT_EXTENSION ≡ 0 → ⊥ = λ z. omega (arith, inside.0, z) in
      inr (subst (λ (b : ℕ). Reached image b (Extension file)) link (elim (points_for file headers f l k (omega (arith, within))) [
        | inl first ↦ subst (λ (b : ℕ). Reached image (long image holder NEXT_EXTENSION) (Extension b)) first.0 (named first.1.reached (first_extension first.1.secondary more) inside)
        | inr further ↦ named further (further_extension more) inside
      ]))

  -- a block that a pointer names is a data block of the file
  pointed : (file header i : ℕ) → PointsFor image file header → i < length (pointers_of image header) → InImage image (pointer image header i) → Reached image (pointer image header i) (Data file)
  pointed file header i p l inside = elim (cases_lt 72 (pointer_count image header)) [
    | inl many ↦ absurd (omega (arith, l, pointers_none image header many))
    | inr few ↦
        let within : i < pointer_count image header = omega (arith, l, pointers_few image header few) in
        elim p [
          | inl first ↦ subst (λ (b : ℕ). Reached image (pointer image header i) (Data b)) first.0 (named first.1.reached (header_pointer first.1.secondary (within, few)) inside)
          | inr further ↦ named further (extension_pointer (within, few)) inside
        ]
  ]

  -- a data block of a file is reached as one
  pub data_reached : (file i block : ℕ) (blocks : List ℕ) → IsDataAt image file blocks i block → Reached image block (Data file)
  data_reached file i block blocks at =
      let d = at.of_file in
      let there : Contains (flat_map (pointers_of image) d.headers) block = subst (λ (xs : List ℕ). Contains xs block) d.pointed (subst (Contains blocks) at.here (Contains-get_or blocks i 0 at.within)) in
      let one = in_joined (pointers_of image) d.headers block there in
      let p = subst (PointsFor image file) (get_or_default d.headers one.1.0 0 one.0 one.1.1 ∙ one.1.2) (points_for file d.headers d.is_file d.linked one.1.0 one.1.1) in
      let j = one.2.0 in
      let is : pointer image one.0 j ≡ block = sym (pointer_at image one.0 j one.2.1) ∙ get_or_default (pointers_of image one.0) j 0 block one.2.1 ∙ one.2.2 in
      subst (λ (b : ℕ). Reached image b (Data file)) is (pointed file one.0 j p one.2.1 (subst (InImage image) (sym is) at.inside))
