-- The blocks of a tree after a file got other bytes in other blocks.
use Rattle.ados_change.proofs.Common.{◌≡◌, ◌≢◌, ℕ, zero, suc, ◌/◌, ◌<◌, ◌≤◌, ◌==◌, ◌⊎◌, inl, inr, Bool, true, false, cond, List, ◌∷◌, length, slice_index, slice_get, Some, refl, sym, ap, ◌∙◌, subst, arith, eq-eqb, ne_eqb, cases_eq, cases_order, false≢true, Format, IsInside, block_count, page_count, has_free_bit, HasFreeBit, format_of, page_block, pages_of, data_count, extension_count, Node, Tree, size_of, IsWritable, IsOther, Leaves, File, Layout, Fits, Duty, HasDuty, Named, Stands, count_same, slice_get-index, slice_get-back, take, cases_lt, get_or-take, length-take, data_blocks, extension_blocks, contents, WritableFile, LeavesOthers, is_some}
use Rattle.ados_change.proofs.Writable.{inside, key_serves, named_used, page_serves, beside_pages, format_is}
use Rattle.ados_change.proofs.Changed.{changed_keeps, each_keeps}
use Rattle.ados_change.proofs.Contents.{holding, refilled}
use Rattle.ados_data.specs.Growth.{GrowsFile}
use Rattle.ados_data.proofs.Grown.{front_at}

-- a block of the new list is at its old position, or was marked free before
abbrev pub ComesFrom : List ℕ → List ℕ → List ℕ → ℕ → Type 0
ComesFrom old xs ys i = ((i < length xs) × (slice_index ys i ≡ slice_index xs i)) ⊎ ((length xs ≤ i) × (has_free_bit old (slice_index ys i) ≡ true))

-- a block of the old list is at its position in the new one, or is marked free afterwards
abbrev pub GoesTo : List ℕ → List ℕ → List ℕ → ℕ → Type 0
GoesTo new xs ys i = ((i < length ys) × (slice_index ys i ≡ slice_index xs i)) ⊎ (has_free_bit new (slice_index xs i) ≡ true)

-- the block is in the list
abbrev pub IsIn : List ℕ → ℕ → Type 0
IsIn xs b = (i : ℕ) × (i < length xs) × (slice_index xs i ≡ b)

-- a file got other bytes, in its old blocks or in blocks that were free; blocks that it gave up are free, and the rest
-- of the bitmap is unchanged
pub record IsRewritten (old : List ℕ) (file : ℕ) (blocks extensions : List ℕ) (new : List ℕ) (blocks' extensions' bytes' : List ℕ) : Type 0 where
  pub writable : IsWritable new file blocks' extensions' bytes'
  pub format : format_of new ≡ format_of old
  pub leaves : Leaves old file blocks extensions new
  pub data_from : (i : ℕ) → i < length blocks' → ComesFrom old blocks blocks' i
  pub extensions_from : (q : ℕ) → q < length extensions' → ComesFrom old extensions extensions' q
  pub data_to : (i : ℕ) → i < length blocks → GoesTo new blocks blocks' i
  pub extensions_to : (q : ℕ) → q < length extensions → GoesTo new extensions extensions' q
  pub taken : (c : ℕ) → IsInside (block_count old) c → has_free_bit old c ≡ true → has_free_bit new c ≡ false → IsIn blocks' c ⊎ IsIn extensions' c

-- the layout in which a file has these blocks
abbrev pub relaid : Layout → ℕ → List ℕ → List ℕ → Layout
relaid l file blocks extensions = record {
  pages = l.pages;
  file_data = λ f. cond (f == file) blocks (l.file_data f);
  extensions = λ f. cond (f == file) extensions (l.extensions f);
}

module _ (old new : List ℕ) (t : Tree) (s : Stands old t) (file : ℕ) (node : Node) (bytes : List ℕ) (found : t.nodes file ≡ Some node) (is_file : node.content ≡ File bytes)
    (blocks' extensions' bytes' : List ℕ) (h : IsRewritten old file (s.layout.file_data file) (s.layout.extensions file) new blocks' extensions' bytes') where
  abbrev pub u : Tree
  u = refilled file bytes' t

  abbrev pub lay : Layout
  lay = relaid s.layout file blocks' extensions'

  pub count_new : block_count new ≡ t.blocks
  count_new = ap (λ (n : ℕ). n / 512) h.leaves.same_length ∙ count_same old t s

  -- ---- blocks with a use outside the file's lists

  -- the use is not in a list of the file
  pub record IsBesideLists (duty : Duty) : Type 0 where
    pub no_data : (i : ℕ) → duty ≢ Duty.Data file i
    pub no_extension : (q : ℕ) → duty ≢ Duty.Extension file q

  -- such a block, if it is neither the header nor a bitmap block, is unchanged
  pub other : (b : ℕ) (duty : Duty) → HasDuty t s.layout b duty → IsBesideLists duty → b ≢ file → ((p : ℕ) → duty ≢ Duty.Page p) → IsOther old file (s.layout.file_data file) (s.layout.extensions file) b
  other b duty m beside not_file no_page = record {
    inside = (inside old t s b duty m).1;
    used = λ l. named_used old t s b duty m;
    beside_pages = beside_pages old t s b duty m no_page;
    beside_headers = headers;
    beside_data = λ i l e. beside.no_data i (s.fits.one_duty b duty (Duty.Data file i) m (slice_get-index (s.layout.file_data file) i l ∙ ap Some (sym e)));
  }
    where
      headers : (q : ℕ) → q ≤ length (s.layout.extensions file) → b ≢ slice_index (file ∷ s.layout.extensions file) q
      headers zero l e = not_file e
      headers (suc q) l e = beside.no_extension q (s.fits.one_duty b duty (Duty.Extension file q) m (slice_get-index (s.layout.extensions file) q (omega (arith, l)) ∙ ap Some (sym e)))

  -- a block with a use other than a key is not the header
  pub not_header : (b : ℕ) (duty : Duty) → HasDuty t s.layout b duty → duty ≢ Duty.Key → b ≢ file
  not_header b duty m n e = n (s.fits.one_duty b duty Duty.Key m (key_serves old t s b node (ap t.nodes e ∙ found)))

  -- ---- uses in the new tree

  -- a use that the block had before, or one by the file's new lists
  pub data Holds (b : ℕ) : Duty → Type 0 where
    as_before : {duty : Duty} → HasDuty t s.layout b duty → IsBesideLists duty → Holds b duty
    as_data : {i : ℕ} → i < length blocks' → slice_index blocks' i ≡ b → Holds b (Duty.Data file i)
    as_extension : {q : ℕ} → q < length extensions' → slice_index extensions' q ≡ b → Holds b (Duty.Extension file q)

  same_key : (b : ℕ) → is_some (u.nodes b) ≡ is_some (t.nodes b)
  same_key = changed_keeps is_some (holding bytes') file t (each_keeps is_some (holding bytes') (λ a. refl))

  pub holds : (b : ℕ) (duty : Duty) → HasDuty u lay b duty → Holds b duty
  holds b Duty.Key m = as_before (sym (same_key b) ∙ m) (record { no_data = λ j z. cc z; no_extension = λ q z. cc z })
  holds b (Duty.Data f i) m = elim (cases_eq f file) [
    | inl e ↦
        let at = slice_get-back blocks' i b (rw (eq-eqb f file e) at m) in
        subst (λ (g : ℕ). Holds b (Duty.Data g i)) (sym e) (as_data at.0 at.1)
    | inr n ↦ as_before (rw (ne_eqb f file n) at m) (record { no_data = λ j z. let same : f ≡ file = cc z in n same; no_extension = λ q z. cc z })
  ]
  holds b (Duty.Extension f q) m = elim (cases_eq f file) [
    | inl e ↦
        let at = slice_get-back extensions' q b (rw (eq-eqb f file e) at m) in
        subst (λ (g : ℕ). Holds b (Duty.Extension g q)) (sym e) (as_extension at.0 at.1)
    | inr n ↦ as_before (rw (ne_eqb f file n) at m) (record { no_data = λ j z. cc z; no_extension = λ j z. let same : f ≡ file = cc z in n same })
  ]
  holds b duty m = as_before m (record { no_data = λ j z. cc z; no_extension = λ q z. cc z })

  pub serves_data : (i : ℕ) → i < length blocks' → HasDuty u lay (slice_index blocks' i) (Duty.Data file i)
  serves_data i l = rw (eq-eqb file file refl) (slice_get-index blocks' i l)

  pub serves_extension : (q : ℕ) → q < length extensions' → HasDuty u lay (slice_index extensions' q) (Duty.Extension file q)
  serves_extension q l = rw (eq-eqb file file refl) (slice_get-index extensions' q l)

  -- a block of the new lists has no other use from before
  new_data : (b i : ℕ) (duty : Duty) → i < length blocks' → slice_index blocks' i ≡ b → HasDuty t s.layout b duty → IsBesideLists duty → ⊥
  new_data b i duty l e m beside = elim (h.data_from i l) [
    | inl was_there ↦ beside.no_data i (s.fits.one_duty b duty (Duty.Data file i) m (slice_get-index (s.layout.file_data file) i was_there.0 ∙ ap Some (sym was_there.1 ∙ e)))
    | inr free ↦ false≢true (sym (named_used old t s b duty m) ∙ ap (has_free_bit old) (sym e) ∙ free.1)
  ]

  new_extension : (b q : ℕ) (duty : Duty) → q < length extensions' → slice_index extensions' q ≡ b → HasDuty t s.layout b duty → IsBesideLists duty → ⊥
  new_extension b q duty l e m beside = elim (h.extensions_from q l) [
    | inl was_there ↦ beside.no_extension q (s.fits.one_duty b duty (Duty.Extension file q) m (slice_get-index (s.layout.extensions file) q was_there.0 ∙ ap Some (sym was_there.1 ∙ e)))
    | inr free ↦ false≢true (sym (named_used old t s b duty m) ∙ ap (has_free_bit old) (sym e) ∙ free.1)
  ]

  data_places : (i j : ℕ) → i < length blocks' → j < length blocks' → slice_index blocks' i ≡ slice_index blocks' j → i ≡ j
  data_places i j l m e = elim (cases_order i j) [
    | inl same ↦ same
    | inr (inl before) ↦ absurd (h.writable.lawful.places.data_once i j before m e)
    | inr (inr behind) ↦ absurd (h.writable.lawful.places.data_once j i behind l (sym e))
  ]

  extension_places : (i j : ℕ) → i < length extensions' → j < length extensions' → slice_index extensions' i ≡ slice_index extensions' j → i ≡ j
  extension_places i j l m e = elim (cases_order i j) [
    | inl same ↦ same
    | inr (inl before) ↦ absurd (h.writable.lawful.places.headers_once (suc i) (suc j) (omega arith) (omega arith) e)
    | inr (inr behind) ↦ absurd (h.writable.lawful.places.headers_once (suc j) (suc i) (omega arith) (omega arith) (sym e))
  ]

  one_holds : (b : ℕ) (duty duty' : Duty) → Holds b duty → Holds b duty' → duty ≡ duty'
  one_holds b duty duty' (as_before m _) (as_before n _) = s.fits.one_duty b duty duty' m n
  one_holds b duty duty' (as_before m x) (as_data l e) = absurd (new_data b _ duty l e m x)
  one_holds b duty duty' (as_before m x) (as_extension l e) = absurd (new_extension b _ duty l e m x)
  one_holds b duty duty' (as_data l e) (as_before m x) = absurd (new_data b _ duty' l e m x)
  one_holds b duty duty' (as_data {i = i} l e) (as_data {i = j} m f) = ap (Duty.Data file) (data_places i j l m (e ∙ sym f))
  one_holds b duty duty' (as_data {i = i} l e) (as_extension {q = q} m f) = absurd (h.writable.lawful.places.apart (suc q) i (omega arith) l (f ∙ sym e))
  one_holds b duty duty' (as_extension l e) (as_before m x) = absurd (new_extension b _ duty' l e m x)
  one_holds b duty duty' (as_extension {q = q} l e) (as_data {i = i} m f) = absurd (h.writable.lawful.places.apart (suc q) i (omega arith) m (e ∙ sym f))
  one_holds b duty duty' (as_extension {q = p} l e) (as_extension {q = q} m f) = ap (Duty.Extension file) (extension_places p q l m (e ∙ sym f))

  holds_inside : (b : ℕ) (duty : Duty) → Holds b duty → IsInside t.blocks b
  holds_inside b duty (as_before m _) = s.fits.inside b duty m
  holds_inside b duty (as_data {i = i} l e) = let n = h.writable.lawful.places.data_inside i l in (omega (arith, n.0, e), omega (arith, n.1, e, count_new))
  holds_inside b duty (as_extension {q = q} l e) = let n = h.writable.lawful.places.headers_inside (suc q) (omega arith) in (omega (arith, n.0, e), omega (arith, n.1, e, count_new))

  -- ---- the lists fit

  data_fits : (f : ℕ) → length (lay.file_data f) ≡ data_count t.format (size_of u f)
  data_fits f = elim (cases_eq f file) [
    | inl e ↦ rw (eq-eqb f file e, found) (h.writable.lawful.data_fits ∙ ap (λ (g : Format). data_count g (length bytes')) (h.format ∙ format_is old t s))
    | inr n ↦ rw (ne_eqb f file n) (s.fits.file_data f)
  ]

  extensions_fit : (f : ℕ) → length (lay.extensions f) ≡ extension_count (length (lay.file_data f))
  extensions_fit f = elim (cases_eq f file) [
    | inl e ↦ rw (eq-eqb f file e) h.writable.lawful.extensions_fit
    | inr n ↦ rw (ne_eqb f file n) (s.fits.extensions f)
  ]

  pub fits_after : Fits u lay
  fits_after = record {
    pages = s.fits.pages;
    file_data = data_fits;
    extensions = extensions_fit;
    inside = λ b duty m. holds_inside b duty (holds b duty m);
    lost = s.fits.lost;
    one_duty = λ b duty duty' m n. one_holds b duty duty' (holds b duty m) (holds b duty' n);
  }

  -- ---- marks

  -- a block with a use is marked used
  used_before : (b : ℕ) (duty : Duty) → HasDuty t s.layout b duty → IsBesideLists duty → has_free_bit new b ≡ false
  used_before b duty m beside = go duty m beside
    where
      left : (d : Duty) → HasDuty t s.layout b d → IsBesideLists d → b ≢ file → ((p : ℕ) → d ≢ Duty.Page p) → has_free_bit new b ≡ false
      left d m beside not_file no_page = h.leaves.used b (inside old t s b d m) (other b d m beside not_file no_page)

      go : (d : Duty) → HasDuty t s.layout b d → IsBesideLists d → has_free_bit new b ≡ false
      go (Duty.Page p) m beside =
          let at = slice_get-back s.layout.pages p b m in
          let within : p < pages_of old = omega (arith, at.0, s.fits.pages, ap page_count (count_same old t s)) in
          let serves = page_serves old t s p within in
          let back = slice_get-back s.layout.pages p (page_block old p) serves in
          let is : page_block new p ≡ b = h.leaves.pages p within ∙ sym back.1 ∙ at.1 in
          ap (has_free_bit new) (sym is) ∙ h.writable.map.pages_marked p (omega (arith, within, ap (λ (n : ℕ). page_count (n / 512)) h.leaves.same_length))
      go Duty.Key m beside = elim (cases_eq b file) [
        | inl e ↦ ap (has_free_bit new) e ∙ (h.writable.headers_used 0 (omega arith)).marked
        | inr n ↦ left Duty.Key m beside n (λ p z. cc z)
      ]
      go d m beside = left d m beside (not_header b d m (λ z. cc z)) (λ p z. cc z)

  used_after : (b : ℕ) (duty : Duty) → Holds b duty → has_free_bit new b ≡ false
  used_after b duty (as_before m x) = used_before b duty m x
  used_after b duty (as_data {i = i} l e) = ap (has_free_bit new) (sym e) ∙ (h.writable.data_used i l).marked
  used_after b duty (as_extension {q = q} l e) = ap (has_free_bit new) (sym e) ∙ (h.writable.headers_used (suc q) (omega arith)).marked

  pub marked_free_after : (b : ℕ) → IsInside t.blocks b → HasFreeBit new b → ¬ Named u lay b
  marked_free_after b i free named = false≢true (sym (used_after b named.0 (holds b named.0 named.1)) ∙ free)

  -- a block that is marked used has a use
  named_before : (b : ℕ) (duty : Duty) → HasDuty t s.layout b duty → has_free_bit new b ≡ false → Named u lay b
  named_before b Duty.Key m used = (Duty.Key, same_key b ∙ m)
  named_before b (Duty.Data f i) m used = elim (cases_eq f file) [
    | inr n ↦ (Duty.Data f i, rw (ne_eqb f file n) m)
    | inl e ↦
        let at = slice_get-back (s.layout.file_data file) i b (ap (λ (g : ℕ). slice_get (s.layout.file_data g) i) (sym e) ∙ m) in
        elim (h.data_to i at.0) [
          | inl stays ↦ (Duty.Data file i, serves_data i stays.0 ∙ ap Some (stays.1 ∙ at.1))
          | inr free ↦ absurd (false≢true (sym used ∙ ap (has_free_bit new) (sym at.1) ∙ free))
        ]
  ]
  named_before b (Duty.Extension f q) m used = elim (cases_eq f file) [
    | inr n ↦ (Duty.Extension f q, rw (ne_eqb f file n) m)
    | inl e ↦
        let at = slice_get-back (s.layout.extensions file) q b (ap (λ (g : ℕ). slice_get (s.layout.extensions g) q) (sym e) ∙ m) in
        elim (h.extensions_to q at.0) [
          | inl stays ↦ (Duty.Extension file q, serves_extension q stays.0 ∙ ap Some (stays.1 ∙ at.1))
          | inr free ↦ absurd (false≢true (sym used ∙ ap (has_free_bit new) (sym at.1) ∙ free))
        ]
  ]
  named_before b duty m used = (duty, m)

  named_taken : (b : ℕ) → IsIn blocks' b ⊎ IsIn extensions' b → Named u lay b
  named_taken b (inl at) = (Duty.Data file at.0, serves_data at.0 at.1 ∙ ap Some at.2)
  named_taken b (inr at) = (Duty.Extension file at.0, serves_extension at.0 at.1 ∙ ap Some at.2)

  pub marked_used_after : (b : ℕ) → IsInside t.blocks b → ¬ HasFreeBit new b → Named u lay b
  marked_used_after b i used = go (has_free_bit new b) refl (has_free_bit old b) refl
    where
      go : (v : Bool) → has_free_bit new b ≡ v → (w : Bool) → has_free_bit old b ≡ w → Named u lay b
      go true e w f = absurd (used e)
      go false e true f = named_taken b (h.taken b (i.0, omega (arith, i.1, count_same old t s)) f e)
      go false e false f = let n = s.marked_used b i (λ m. false≢true (sym f ∙ m)) in named_before b n.0 n.1 e

-- ---- the calls on a file's data rewrite the file

-- ---- lists that get shorter

front_from : (old : List ℕ) (n : ℕ) (xs ys : List ℕ) → ys ≡ take n xs → (i : ℕ) → i < length ys → ComesFrom old xs ys i
front_from old n xs ys e i l =
    let within : (i < n) × (i < length xs) = (omega (arith, l, ap length e, length-take n xs), omega (arith, l, ap length e, length-take n xs)) in
    inl (within.1, ap (λ (zs : List ℕ). slice_index zs i) e ∙ get_or-take n xs i 0 within.0)

front_to : (new : List ℕ) (n : ℕ) (xs ys : List ℕ) → ys ≡ take n xs → ((j : ℕ) → n ≤ j → j < length xs → has_free_bit new (slice_index xs j) ≡ true) → (i : ℕ) → i < length xs → GoesTo new xs ys i
front_to new n xs ys e freed i l = elim (cases_lt i n) [
  | inl m ↦ inl (omega (arith, l, m, ap length e, length-take n xs), ap (λ (zs : List ℕ). slice_index zs i) e ∙ get_or-take n xs i 0 m)
  | inr m ↦ inr (freed i m l)
]

pub of_cut : (old new : List ℕ) (file count extensions : ℕ) → WritableFile new file → format_of new ≡ format_of old → LeavesOthers old file new
    → ((c : ℕ) → IsInside (block_count old) c → has_free_bit old c ≡ true → has_free_bit new c ≡ true)
    → data_blocks new file ≡ take count (data_blocks old file) → extension_blocks new file ≡ take extensions (extension_blocks old file)
    → ((j : ℕ) → count ≤ j → j < length (data_blocks old file) → has_free_bit new (slice_index (data_blocks old file) j) ≡ true)
    → ((q : ℕ) → extensions ≤ q → q < length (extension_blocks old file) → has_free_bit new (slice_index (extension_blocks old file) q) ≡ true)
    → IsRewritten old file (data_blocks old file) (extension_blocks old file) new (data_blocks new file) (extension_blocks new file) (contents new file)
of_cut old new file count extensions writable format leaves stays blocks lists freed freed_lists = record {
  writable = writable;
  format = format;
  leaves = leaves;
  data_from = front_from old count (data_blocks old file) (data_blocks new file) blocks;
  extensions_from = front_from old extensions (extension_blocks old file) (extension_blocks new file) lists;
  data_to = front_to new count (data_blocks old file) (data_blocks new file) blocks freed;
  extensions_to = front_to new extensions (extension_blocks old file) (extension_blocks new file) lists freed_lists;
  taken = λ c i was is. absurd (false≢true (sym is ∙ stays c i was));
}

-- ---- lists that grow

more_from : (old xs ys : List ℕ) → take (length xs) ys ≡ xs → (i : ℕ) → ((i < length xs) × (slice_index ys i ≡ slice_index xs i)) ⊎ ((2 ≤ slice_index ys i) × (has_free_bit old (slice_index ys i) ≡ true)) → ComesFrom old xs ys i
more_from old xs ys e i h = elim (cases_lt i (length xs)) [
  | inl l ↦ inl (l, front_at xs ys e i l)
  | inr l ↦ elim h [ inl same ↦ absurd (omega (arith, l, same.0)) | inr free ↦ inr (l, free.1) ]
]

more_to : (new xs ys : List ℕ) → take (length xs) ys ≡ xs → (i : ℕ) → i < length xs → GoesTo new xs ys i
more_to new xs ys e i l =
    inl (omega (arith, l, ap length e, length-take (length xs) ys), front_at xs ys e i l)

pub of_gains : {old new : List ℕ} {file size : ℕ} → WritableFile old file → GrowsFile old file size new → IsRewritten old file (data_blocks old file) (extension_blocks old file) new (data_blocks new file) (extension_blocks new file) (contents new file)
of_gains {old} {new} {file} was g = record {
  writable = g.writable;
  format = g.format;
  leaves = g.leaves;
  data_from = λ i l. more_from old (data_blocks old file) (data_blocks new file) g.blocks i (g.gains.data_blocks_of i l);
  extensions_from = λ q l.
      more_from old (extension_blocks old file) (extension_blocks new file) g.extensions q (elim (g.gains.headers (suc q) (omega arith)) [ inl same ↦ inl (omega (arith, same.0), same.1) | inr free ↦ inr free ]);
  data_to = more_to new (data_blocks old file) (data_blocks new file) g.blocks;
  extensions_to = more_to new (extension_blocks old file) (extension_blocks new file) g.extensions;
  taken = λ c i was_free is_used. elim (g.gains.taken c i was_free is_used) [
    | inl header ↦ in_lists c was_free header.0 header.1 header.2
    | inr block ↦ inl (block.0, block.1, sym block.2)
  ];
}
  where
    -- the header was in use before
    in_lists : (c : ℕ) → has_free_bit old c ≡ true → (q : ℕ) → q ≤ length (extension_blocks new file) → c ≡ slice_index (file ∷ extension_blocks new file) q → IsIn (data_blocks new file) c ⊎ IsIn (extension_blocks new file) c
    in_lists c free zero l e = absurd (false≢true (sym (was.headers_used 0 (omega arith)).marked ∙ ap (has_free_bit old) (sym e) ∙ free))
    in_lists c free (suc q) l e = inr (q, omega (arith, l), sym e)
