-- One more line of a bundle's text, and one more path.
use Rattle.adf_record.proofs.Common.{◌≡◌, ℕ, zero, suc, ◌+◌, ◌<◌, Bool, if◌then◌else◌, ◌⊎◌, inl, inr, List, [], ◌∷◌, ◌++◌, None, Option, Some, map, Result, Ok, Err, IfErr, IsErrAnd, slice_get, codes, length, get_or, take, refl, sym, ap, ◌∙◌, subst, append_assoc, append-nil, length-append, arith, flat_map_more, length-map, length-take-le, map-append, take_more, AllZip-long, all_zipped_more, print, BundleEntry, MOST_BUNDLE_BYTES, IsEntryLine, IsHeadLine, IsPathOf, IsTextFault, IsTextTo, LacksDirectory, entry_tokens, in_lines, no_memory, no_directory, too_long, long, memory, IsPathAt, separator}
use lib.Dec.{eqb-suc-zero}
use Rattle.std.proofs.Common.{reverse}
use Rattle.std.proofs.lemmas.List.{reverse-append, reverse-reverse}
use Rattle.std.proofs.lemmas.Option.{slice_get-get_or}
use Rattle.std.specs.List.{AllZip}
use Rattle.adf_record.specs.Described.IsPathOf.{inner, top}
use Rattle.ados_name.specs.Date.{IsTextOf}
use Rattle.adf_record.specs.declared.bundle.Bundle.{Bundle}
use Rattle.adf_record.specs.declared.bundle_fault.BundleFault.{BundleFault}

in_lines_more : (lines : List (List ℕ)) (line : List ℕ) → in_lines (lines ++ line ∷ []) ≡ in_lines lines ++ separator (length lines) ++ line
in_lines_more [] line = append-nil (codes "\n" ++ line)
in_lines_more (first ∷ lines) line =
    sym (flat_map_more (λ (other : List ℕ). codes ",\n" ++ other) (codes "\n" ++ first) lines line)
    ∙ sym (append_assoc (in_lines (first ∷ lines)) (codes ",\n") line)
    ∙ ap (λ (b : Bool). in_lines (first ∷ lines) ++ (if b then codes "\n" else codes ",\n") ++ line) (sym (eqb-suc-zero (length lines)))

regroup : (head lines separator line : List ℕ) → head ++ lines ++ separator ++ line ≡ head ++ (lines ++ separator ++ line)
regroup head lines separator line = simp append_assoc

-- the line of the volume alone
pub text_none : (bundle : Bundle) (line text : List ℕ) → IsHeadLine bundle line → text ≡ line → IsTextTo bundle 0 text
text_none bundle line text is same = record { head = line; head_is = is; lines = []; lines_are = tt; whole = same ∙ sym (append-nil line) }

-- the line of the next entry
pub text_more : (bundle : Bundle) (n : ℕ) (entry : BundleEntry) (line old new : List ℕ) → IsTextTo bundle n old
    → n < length bundle.entries.items → entry ≡ get_or bundle.entries.items n entry → IsEntryLine bundle.entries.items entry line
    → new ≡ old ++ separator n ++ line → IsTextTo bundle (n + 1) new
text_more bundle n entry line old new told inside at is grown =
    let entries = bundle.entries.items in
    let before = take n entries in
    let last : take (n + 1) entries ≡ before ++ entry ∷ [] = take_more entries n entry inside ∙ ap (λ (e : BundleEntry). before ++ e ∷ []) (sym at) in
    let count : length told.lines ≡ n = AllZip-long (IsEntryLine entries) before told.lines told.lines_are ∙ length-take-le n entries (omega arith) in
    record {
      head = told.head;
      head_is = told.head_is;
      lines = told.lines ++ line ∷ [];
      lines_are = subst (λ (es : List BundleEntry). AllZip (IsEntryLine entries) es (told.lines ++ line ∷ [])) (sym last)
          (all_zipped_more (IsEntryLine entries) before told.lines entry line told.lines_are is);
      whole =
          grown ∙ ap (λ (text : List ℕ). text ++ separator n ++ line) told.whole
          ∙ regroup told.head (in_lines told.lines) (separator n) line
          ∙ ap (λ (k : ℕ). told.head ++ (in_lines told.lines ++ separator k ++ line)) (sym count)
          ∙ ap (λ (text : List ℕ). told.head ++ text) (sym (in_lines_more told.lines line));
    }

-- an entry that is read twice is the same
pub above_is : (entries : List BundleEntry) (at : ℕ) (a d : BundleEntry) (above : Option ℕ) → slice_get entries at ≡ Some a → at < length entries → (get_or entries at d).above ≡ above → a.above ≡ above
above_is entries at a d above there inside is =
    let same : Some a ≡ Some (get_or entries at d) = sym there ∙ slice_get-get_or entries at d inside in
    let own : a ≡ get_or entries at d = cc same in
    ap (λ (e : BundleEntry). e.above) own ∙ is

-- what a path ends with, behind that of the directory at another position
module _ (entries : List BundleEntry) (place : ℕ) where
  abbrev pub IsRest : ℕ → List ℕ → Type 0
  IsRest at rest = (path : List ℕ) → IsPathAt entries at path → IsPathAt entries place (path ++ rest)

  pub rest_none : (backwards : List ℕ) → backwards ≡ [] → IsRest place (reverse backwards)
  rest_none backwards none = λ path is. subst (IsPathAt entries place) (sym (ap (λ (b : List ℕ). path ++ reverse b) none ∙ append-nil path)) is

  module _ (at : ℕ) (a : BundleEntry) (backwards : List ℕ) (there : slice_get entries at ≡ Some a) (rest : IsRest at (reverse backwards)) where
    own : (e : BundleEntry) → slice_get entries at ≡ Some e → e ≡ a
    own e here =
        let same : Some e ≡ Some a = sym here ∙ there in
        cc same

    pub rest_more : (above : ℕ) (directory : BundleEntry) (more : List ℕ) → a.above ≡ Some above → slice_get entries above ≡ Some directory → more ≡ (backwards ++ reverse a.name) ++ 47 ∷ [] → IsRest above (reverse more)
    rest_more above directory more leads inside is = λ path holds.
        let behind : IsPathAt entries at (path ++ codes "/" ++ a.name) = λ e here.
        subst (λ (b : BundleEntry). IsPathOf entries b (path ++ codes "/" ++ a.name)) (sym (own e here)) (inner leads inside (holds directory inside)) in
        let turned : reverse more ≡ codes "/" ++ (a.name ++ reverse backwards) =
        ap reverse is ∙ reverse-append (backwards ++ reverse a.name) (47 ∷ []) ∙ ap (λ (b : List ℕ). codes "/" ++ b) (reverse-append backwards (reverse a.name) ∙ ap (λ (n : List ℕ). n ++ reverse backwards) (reverse-reverse a.name)) in
        subst (IsPathAt entries place) (regroup path (codes "/") a.name (reverse backwards) ∙ ap (λ (b : List ℕ). path ++ b) (append_assoc (codes "/") a.name (reverse backwards) ∙ sym turned)) (rest (path ++ codes "/" ++ a.name) behind)

    pub rest_whole : (whole : List ℕ) → a.above ≡ None → whole ≡ reverse (backwards ++ reverse a.name) → IsPathAt entries place whole
    rest_whole whole first is =
        let turned : whole ≡ a.name ++ reverse backwards = is ∙ reverse-append backwards (reverse a.name) ∙ ap (λ (n : List ℕ). n ++ reverse backwards) (reverse-reverse a.name) in
        subst (IsPathAt entries place) (sym turned) (rest a.name (λ e here. subst (λ (b : BundleEntry). IsPathOf entries b a.name) (sym (own e here)) (top first)))

-- the line of an entry with this path
pub line_of_entry : (entries : List BundleEntry) (entry : BundleEntry) (path given line shown : List ℕ) → IsPathOf entries entry path → given ≡ path
    → (date : List ℕ) × IsTextOf entry.date date × (line ≡ print (entry_tokens entry given date)) → shown ≡ line → IsEntryLine entries entry shown
line_of_entry entries entry path given line shown is same told here =
    (path, told.0, is, told.1, here ∙ told.2 ∙ ap (λ (p : List ℕ). print (entry_tokens entry p told.0)) same)

-- why there is no text
module _ {T : Type 0} (bundle : Bundle) where
  pub path_fault : (found : BundleFault) (done : Result T BundleFault) → (found ≡ no_memory) ⊎ LacksDirectory bundle.entries.items found → IsErrAnd done (λ fault. fault ≡ found)
      → IfErr done (λ fault. IsTextFault bundle fault)
  path_fault found (Ok x) why same = tt
  path_fault found (Err fault) why same = subst (IsTextFault bundle) (sym same) (elim why [ inl none ↦ subst (IsTextFault bundle) (sym none) memory | inr lacks ↦ no_directory lacks ])

  pub memory_fault : (done : Result T BundleFault) → IsErrAnd done (λ fault. fault ≡ no_memory) → IfErr done (λ fault. IsTextFault bundle fault)
  memory_fault (Ok x) same = tt
  memory_fault (Err fault) same = subst (IsTextFault bundle) (sym same) memory

  pub line_fault : (n : ℕ) (text : List ℕ) (found : BundleFault) (done : Result T BundleFault) → IsTextTo bundle n text
      → (found ≡ no_memory) ⊎ ((found ≡ too_long) × (MOST_BUNDLE_BYTES < length text + 4)) → IsErrAnd done (λ fault. fault ≡ found)
      → IfErr done (λ fault. IsTextFault bundle fault)
  line_fault n text found (Ok x) told why same = tt
  line_fault n text found (Err fault) told why same =
      elim why [
        | inl none ↦ subst (IsTextFault bundle) (sym (same ∙ none)) memory
        | inr over ↦
            subst (IsTextFault bundle) (sym (same ∙ over.0))
            (long told (subst (λ (k : ℕ). MOST_BUNDLE_BYTES < k) (sym (length-append text (codes "\n]}\n"))) over.1))
      ]
