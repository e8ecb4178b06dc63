-- The header and the extension blocks of a file whose blocks are reached.
use Rattle.ados_check.proofs.Common.{◌≡◌, ◌≢◌, ℕ, zero, suc, ◌<◌, ◌≤◌, ◌⊎◌, inl, inr, List, length, map, slice_index, slice_index_or, refl, sym, ap, ◌∙◌, subst, arith, range_with_len, cases_lt, cases_order, length-map-range_with_len, get_or-map-range_with_len, block_count, long, pointer_count, primary_type, HEADER_TYPE, NEXT_DATA, pointer_block, Role, Entry, Extension, HasFileType, IsOfs, Reached, pointers_of, HasBadField, HasBadTypeAs, PointerCount, FirstData, HasCount, HasPointersAs, IsReachedEntry, IsReachedFile}
use Rattle.ados_check.specs.steps.Files.HasPointersAs.{header, extension}
use Rattle.ados_check.proofs.Counting.{AreDifferent, different_few}
use Rattle.ados_check.proofs.Ruling.{stable}

-- the first pointer blocks of a file
unfoldable pub headers_upto : List ℕ → ℕ → ℕ → List ℕ
headers_upto image file n = map (pointer_block image file) (range_with_len 0 n)

pub length-headers_upto : (image : List ℕ) (file n : ℕ) → length (headers_upto image file n) ≡ n
unfolding headers_upto
length-headers_upto image file n = length-map-range_with_len (pointer_block image file) 0 n

pub header-at : (image : List ℕ) (file n q d : ℕ) → q < n → slice_index_or (headers_upto image file n) q d ≡ pointer_block image file q
unfolding headers_upto
header-at image file n q d l = get_or-map-range_with_len (pointer_block image file) 0 n q q d l (omega arith)

module _ (image : List ℕ) (file : ℕ) (r : IsReachedFile image file) where
  pub header_inside : (q : ℕ) → q ≤ r.extensions → pointer_block image file q < block_count image
  header_inside q l = (r.inside q l).1

  pub not_zero : (q : ℕ) → q ≤ r.extensions → pointer_block image file q ≢ 0
  not_zero q l z = omega (arith, (r.inside q l).0, z)

  -- the links stay within the file
  pub within : (q : ℕ) → ((p : ℕ) → p < q → pointer_block image file (suc p) ≢ 0) → q ≤ r.extensions
  within zero h = omega arith
  within (suc q) h = go (within q (λ p l. h p (omega arith))) (cases_lt q r.extensions)
    where
      go : q ≤ r.extensions → (q < r.extensions) ⊎ (r.extensions ≤ q) → suc q ≤ r.extensions
      go before (inl l) = omega arith
      go before (inr m) =
          let last : q ≡ r.extensions = omega arith in
          absurd (h q (omega arith) (ap (λ (k : ℕ). pointer_block image file (suc k)) last ∙ r.ends))

  different : AreDifferent (headers_upto image file (suc r.extensions))
  different i j l m e =
      let size = length-headers_upto image file (suc r.extensions) in
      let same : pointer_block image file i ≡ pointer_block image file j =
      sym (header-at image file (suc r.extensions) i 0 (omega (arith, l, size))) ∙ e ∙ header-at image file (suc r.extensions) j 0 (omega (arith, m, size)) in
      elim (cases_order i j) [
        | inl here ↦ here
        | inr (inl below) ↦ absurd (r.once i j below (omega (arith, m, size)) same)
        | inr (inr above) ↦ absurd (r.once j i above (omega (arith, l, size)) (sym same))
      ]

  -- a file has fewer extension blocks than the image has blocks
  pub few_extensions : r.extensions < block_count image
  few_extensions =
      let size = length-headers_upto image file (suc r.extensions) in
      let below : (i : ℕ) → i < length (headers_upto image file (suc r.extensions)) → slice_index (headers_upto image file (suc r.extensions)) i < block_count image = λ i l.
      omega (arith, header-at image file (suc r.extensions) i 0 (omega (arith, l, size)), header_inside i (omega (arith, l, size))) in
      let few = different_few (block_count image) (headers_upto image file (suc r.extensions)) below different in
      omega (arith, few, size)

-- ---- the header as an entry, and the extension blocks

-- the count that a block with pointers has if it does not break the rule
pub right_count : (image : List ℕ) (block : ℕ) (role : Role) → HasPointersAs image block role → ¬ HasBadField image block role PointerCount → HasCount image block role (pointer_count image block)
right_count image block (Entry dir s) (header h f) right =
    let over : ¬ (72 < pointer_count image block) = λ l. right (f, inl l) in
    record {
      counted = refl;
      few = omega (arith, over);
      full = λ more. let less : ¬ (pointer_count image block < 72) = λ l. right (f, inr (l, more)) in omega (arith, over, less);
      some = λ file e. absurd (cc e);
    }
right_count image block (Extension file) (extension h) right =
    let over : ¬ (72 < pointer_count image block) = λ l. right (inr (inl l)) in
    let none : pointer_count image block ≢ 0 = λ z. right (inl z) in
    record {
      counted = refl;
      few = omega (arith, over);
      full = λ more. let less : ¬ (pointer_count image block < 72) = λ l. right (inr (inr (l, more))) in omega (arith, over, less);
      some = λ file e. omega (arith, none);
    }
right_count image block _ held right = elim held [ ]

module _ (image : List ℕ) (block : ℕ) where
  pub reached_as : (role : Role) → HasPointersAs image block role → Reached image block role
  reached_as (Entry dir s) (header h f) = h
  reached_as (Extension file) (extension h) = h
  reached_as _ held = elim held [ ]

  entry_as : (role : Role) → IsReachedEntry image block role → HasFileType image block → HasPointersAs image block role
  entry_as role e f = subst (HasPointersAs image block) (sym e.is) (header (subst (Reached image block) e.is e.reached) f)

  right_entry : (role : Role) → IsReachedEntry image block role → primary_type image block ≡ HEADER_TYPE → HasFileType image block → ¬ HasBadTypeAs image block role
  right_entry role e primary f bad = elim (subst (HasBadTypeAs image block) e.is bad) [
    | inl n ↦ n primary
    | inr none ↦ none.1 f
  ]

  -- in OFS the header of a file that does not break the rule links to its first data block
  pub first_link : (role : Role) → IsReachedEntry image block role → HasFileType image block → IsOfs image → ¬ HasBadField image block role FirstData → long image block NEXT_DATA ≡ slice_index (pointers_of image block) 0
  first_link role e f ofs right = stable _ _ (λ n. right (subst (λ (x : Role). HasBadField image block x FirstData) (sym e.is) (f, (ofs, n))))

module _ (image : List ℕ) (file : ℕ) (r : IsReachedFile image file) (entry : Role) (e : IsReachedEntry image file entry) where
  -- pointer block q in its role: that of the entry, then of an extension block
  pub pointers_as : (q block : ℕ) (role : Role) → q ≤ r.extensions → block ≡ pointer_block image file q → (q ≡ 0 → role ≡ entry) → (0 < q → role ≡ Extension file) → HasPointersAs image block role
  pointers_as zero block role l is first further = subst (λ (b : ℕ). HasPointersAs image b role) (sym is) (subst (HasPointersAs image file) (sym (first refl)) (entry_as image file entry e r.is_file.secondary))
  pointers_as (suc q) block role l is first further =
      subst (λ (b : ℕ). HasPointersAs image b role) (sym is)
      (subst (HasPointersAs image (pointer_block image file (suc q))) (sym (further (omega arith))) (extension (r.reached q (omega arith))))

  pub types_right : (q block : ℕ) (role : Role) → q ≤ r.extensions → block ≡ pointer_block image file q → (q ≡ 0 → role ≡ entry) → (0 < q → role ≡ Extension file) → ¬ HasBadTypeAs image block role
  types_right zero block role l is first further bad =
      right_entry image file entry e r.primary r.is_file.secondary (subst (HasBadTypeAs image file) (first refl) (subst (λ (b : ℕ). HasBadTypeAs image b role) is bad))
  types_right (suc q) block role l is first further bad =
      let fields = r.fields q (omega arith) in
      elim (subst (HasBadTypeAs image (pointer_block image file (suc q))) (further (omega arith)) (subst (λ (b : ℕ). HasBadTypeAs image b role) is bad)) [
        | inl n ↦ n fields.primary
        | inr n ↦ n fields.secondary
      ]
