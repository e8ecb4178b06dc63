-- Two images of one tree that come from one image have the same layout.
use Rattle.ados_change.proofs.Common.{◌≡◌, ◌≢◌, ℕ, zero, suc, ◌+◌, ◌*◌, ◌/◌, ◌<◌, ◌≤◌, inl, inr, Bool, true, false, List, length, slice_index, slice_get, Option, Some, None, IsSome, option_map, refl, sym, ap, ◌∙◌, subst, arith, false≢true, cases_lt, cases_order, ext_get_or, byte_at, has_free_bit, format_of, Format, Ofs, Ffs, page_block, pages_of, block_count, slice_get-index, slice_get-back, no_data, size_in, count_same, data_count, extension_count, Content, Node, Tree, content_at, size_of, Directory, File, Duty, HasDuty, Layout, Stands, content_in, IsFileNode, HasFileKey, data_blocks, extension_blocks, IsTaken, TakenRise, TakenInTurn, KeepsRest, AgreeInFront, byte-bytes_at, is_some}
use Rattle.std.proofs.lemmas.Bool.{cases_Bool}
use Rattle.ados_change.specs.Laws.{OneGrows}
use Rattle.ados_change.proofs.FilesStay.{has_bytes}
use Rattle.ados_change.proofs.Writable.{data_is, extensions_is, format_is, inside, named_used, page_serves}

-- ---- the two lists of a file: its data blocks, and its extension blocks

abbrev pub part : Layout → Bool → ℕ → List ℕ
part l true file = l.file_data file
part l false file = l.extensions file

abbrev pub duty_in : Bool → ℕ → ℕ → Duty
duty_in true file i = Duty.Data file i
duty_in false file i = Duty.Extension file i

-- the place of a block among all blocks of its file, in the order in which they are allocated
abbrev turn : Bool → ℕ → ℕ
turn true i = i + i / 72
turn false q = 72 * (q + 1) + q

-- the length of each list for a size
abbrev part_length : Bool → Format → ℕ → ℕ
part_length true format size = data_count format size
part_length false format size = extension_count (data_count format size)

part_grows : (p : Bool) (format : Format) (a b : ℕ) → part_length p format a < part_length p format b → a < b
part_grows true Ofs a b l = omega (arith, l)
part_grows true Ffs a b l = omega (arith, l)
part_grows false Ofs a b l = omega (arith, l)
part_grows false Ffs a b l = omega (arith, l)

-- blocks of a list with the same place in turn are at the same position
same_position : (l : Layout) (file : ℕ) (p p' : Bool) (i j : ℕ) → turn p i ≡ turn p' j → slice_index (part l p file) i ≡ slice_index (part l p' file) j
same_position l file true true i j e = let same : i ≡ j = omega (arith, e) in ap (slice_index (l.file_data file)) same
same_position l file false false i j e = let same : i ≡ j = omega (arith, e) in ap (slice_index (l.extensions file)) same
same_position l file true false i j e = absurd (omega (arith, e))
same_position l file false true i j e = absurd (omega (arith, e))

same_turn : (file other : ℕ) (p p' : Bool) (i j : ℕ) → duty_in p file i ≡ duty_in p' other j → turn p i ≡ turn p' j
same_turn file other true true i j e = let same : i ≡ j = cc e in ap (λ (k : ℕ). k + k / 72) same
same_turn file other false false i j e = let same : i ≡ j = cc e in ap (λ (k : ℕ). 72 * (k + 1) + k) same
same_turn file other true false i j e = absurd (cc e)
same_turn file other false true i j e = absurd (cc e)

-- ---- one image

module _ (image : List ℕ) (t : Tree) (s : Stands image t) where
  pub part_serves : (p : Bool) (file i : ℕ) → i < length (part s.layout p file) → HasDuty t s.layout (slice_index (part s.layout p file) i) (duty_in p file i)
  part_serves true file i l = slice_get-index (s.layout.file_data file) i l
  part_serves false file i l = slice_get-index (s.layout.extensions file) i l

  part_back : (p : Bool) (file i b : ℕ) → HasDuty t s.layout b (duty_in p file i) → (i < length (part s.layout p file)) × (slice_index (part s.layout p file) i ≡ b)
  part_back true file i b m = slice_get-back (s.layout.file_data file) i b m
  part_back false file i b m = slice_get-back (s.layout.extensions file) i b m

  length_is : (p : Bool) (file : ℕ) → length (part s.layout p file) ≡ part_length p t.format (size_of t file)
  length_is true file = s.fits.file_data file
  length_is false file = s.fits.extensions file ∙ ap extension_count (s.fits.file_data file)

  -- only files have blocks
  pub file_with : (p : Bool) (file i : ℕ) → i < length (part s.layout p file) → IsFileNode image t s file
  file_with p file i l = go (content_at t file) refl
    where
      empty : size_of t file ≡ 0 → length (part s.layout p file) ≡ 0
      empty e = length_is p file ∙ ap (part_length p t.format) e ∙ none p t.format
        where
          none : (p : Bool) (f : Format) → part_length p f 0 ≡ 0
          none true f = no_data f
          none false f = ap extension_count (no_data f)

      go : (o : Option Content) → content_at t file ≡ o → IsFileNode image t s file
      go None e = absurd (omega (arith, l, empty (ap size_in e)))
      go (Some (Directory keys)) e = absurd (omega (arith, l, empty (ap size_in e)))
      go (Some (File bytes)) e = let m = content_in (t.nodes file) (File bytes) e in record { node = m.0; bytes = bytes; at = m.1; content = m.2 }

  pub key_of : (file : ℕ) → IsFileNode image t s file → HasFileKey image file
  key_of file f v r = (f.bytes, has_bytes image t s file f.bytes (ap (option_map (λ (a : Node). a.content)) f.at ∙ ap Some f.content) v r)

  pub data_of : (file : ℕ) → IsFileNode image t s file → data_blocks image file ≡ s.layout.file_data file
  data_of file f = data_is image t s file f.node f.bytes f.at f.content

  extensions_of : (file : ℕ) → IsFileNode image t s file → extension_blocks image file ≡ s.layout.extensions file
  extensions_of file f = extensions_is image t s file f.node f.bytes f.at f.content

-- ---- an image and one that comes from it

module _ (old new : List ℕ) (t u : Tree) (s : Stands old t) (r : Stands new u) (k : KeepsRest old new) where
  same_count : block_count new ≡ block_count old
  same_count = ap (λ (n : ℕ). n / 512) k.kept.size

  pub same_format : u.format ≡ t.format
  same_format =
      let kind : byte_at new 0 3 ≡ byte_at old 0 3 = sym (byte-bytes_at new 0 0 1024 3 (omega arith)) ∙ ap (λ (xs : List ℕ). slice_index xs 3) k.kept.boot ∙ byte-bytes_at old 0 0 1024 3 (omega arith) in
      let same : format_of new ≡ format_of old = rw kind refl in
      sym (format_is new u r) ∙ same ∙ format_is old t s

  pub page_at : (i : ℕ) → i < length r.layout.pages → slice_index r.layout.pages i ≡ page_block old i
  page_at i l =
      let now : i < pages_of new = omega (arith, l, r.fits.pages, count_same new u r) in
      let below : i < pages_of old = omega (arith, now, same_count) in
      let at = slice_get-back r.layout.pages i (page_block new i) (page_serves new u r i now) in
      at.1 ∙ k.untold.past_end.pages i below

  -- positions that a file had before keep their blocks
  pub front_stays : (p : Bool) (file i : ℕ) → i < length (part s.layout p file) → i < length (part r.layout p file) → slice_index (part r.layout p file) i ≡ slice_index (part s.layout p file) i
  front_stays p file i l m = go p l m
    where
      f : IsFileNode old t s file
      f = file_with old t s p file i l

      g : IsFileNode new u r file
      g = file_with new u r p file i m

      go : (p : Bool) → i < length (part s.layout p file) → i < length (part r.layout p file) → slice_index (part r.layout p file) i ≡ slice_index (part s.layout p file) i
      go true l m =
          let agree = (k.untold.file_ends file (key_of old t s file f) (key_of new u r file g)).blocks in
          (subst (λ (xs : List ℕ). AgreeInFront xs (r.layout.file_data file)) (data_of old t s file f) (subst (AgreeInFront (data_blocks old file)) (data_of new u r file g) agree)) i l m
      go false l m =
          let agree = (k.untold.file_ends file (key_of old t s file f) (key_of new u r file g)).extensions in
          (subst (λ (xs : List ℕ). AgreeInFront xs (r.layout.extensions file)) (extensions_of old t s file f) (subst (AgreeInFront (extension_blocks old file)) (extensions_of new u r file g) agree)) i l m

  -- a position that the file's list did not have before
  pub record IsNewAt (p : Bool) (file i : ℕ) : Type 0 where
    pub behind : length (part s.layout p file) ≤ i
    pub within : i < length (part r.layout p file)

  -- such a block was free and is in use
  pub new_taken : (p : Bool) (file i : ℕ) → IsNewAt p file i → IsTaken old new (slice_index (part r.layout p file) i)
  new_taken p file i n =
      let block = slice_index (part r.layout p file) i in
      let serves = part_serves new u r p file i n.within in
      let within = inside new u r block (duty_in p file i) serves in
      record {
        inside = (within.0, omega (arith, within.1, same_count));
        was_free = elim (k.uses t u s r block (duty_in p file i) serves) [
          | inl was ↦ absurd (let at = part_back old t s p file i block was in omega (arith, at.0, n.behind))
          | inr free ↦ free
        ];
        in_use = λ free. false≢true (sym (named_used new u r block (duty_in p file i) serves) ∙ free);
      }

  -- new blocks of one file are in the order of their places
  in_order : (file : ℕ) (p p' : Bool) (i j : ℕ) → IsNewAt p file i → IsNewAt p' file j → turn p i < turn p' j → slice_index (part r.layout p file) i < slice_index (part r.layout p' file) j
  in_order file p p' i j n m l = go p p' n m l (new_taken p file i n) (new_taken p' file j m)
    where
      f : IsFileNode new u r file
      f = file_with new u r p file i n.within

      key : HasFileKey new file
      key = key_of new u r file f

      turns : TakenInTurn old new (r.layout.extensions file) (r.layout.file_data file)
      turns =
          subst (λ (xs : List ℕ). TakenInTurn old new xs (r.layout.file_data file)) (extensions_of new u r file f)
          (subst (TakenInTurn old new (extension_blocks new file)) (data_of new u r file f) (k.lowest.in_turn file key))

      go : (p p' : Bool) → IsNewAt p file i → IsNewAt p' file j → turn p i < turn p' j → IsTaken old new (slice_index (part r.layout p file) i) → IsTaken old new (slice_index (part r.layout p' file) j)
          → slice_index (part r.layout p file) i < slice_index (part r.layout p' file) j
      go true true n m l a b = subst (TakenRise old new) (data_of new u r file f) (k.lowest.data_rise file key) i j (omega (arith, l)) m.within a b
      go false false n m l a b = subst (TakenRise old new) (extensions_of new u r file f) (k.lowest.extensions_rise file key) i j (omega (arith, l)) m.within a b
      go true false n m l a b = (turns j i m.within n.within b a).0 (omega (arith, l))
      go false true n m l a b = (turns i j n.within m.within a b).1 (omega (arith, l))

  -- a file with a new position is longer
  pub longer : (p : Bool) (file i : ℕ) → IsNewAt p file i → size_of t file < size_of u file
  longer p file i n =
      part_grows p t.format (size_of t file) (size_of u file)
      (omega (arith, n.behind, n.within, length_is old t s p file, length_is new u r p file, ap (λ (f : Format). part_length p f (size_of u file)) same_format))

  -- the key of a new node was free and is in use
  pub key_taken : (key : ℕ) → t.nodes key ≡ None → IsSome (u.nodes key) → IsTaken old new key
  key_taken key none now =
      let within = inside new u r key Duty.Key now in
      record {
        inside = (within.0, omega (arith, within.1, same_count));
        was_free = elim (k.uses t u s r key Duty.Key now) [ inl was ↦ absurd (false≢true (sym (ap is_some none) ∙ was)) | inr free ↦ free ];
        in_use = λ free. false≢true (sym (named_used new u r key Duty.Key now) ∙ free);
      }

-- ---- two images that come from it

module _ (old a z : List ℕ) (t u : Tree) (s : Stands old t) (ra : Stands a u) (rz : Stands z u) (ka : KeepsRest old a) (kz : KeepsRest old z) where
  pub pages_same : ra.layout.pages ≡ rz.layout.pages
  pages_same = ext_get_or 0 ra.layout.pages rz.layout.pages (ra.fits.pages ∙ sym rz.fits.pages) (λ i l. page_at old a t u s ra ka i l ∙ sym (page_at old z t u s rz kz i (omega (arith, l, ra.fits.pages, rz.fits.pages))))

  lengths_same : (p : Bool) (file : ℕ) → length (part ra.layout p file) ≡ length (part rz.layout p file)
  lengths_same p file = length_is a u ra p file ∙ sym (length_is z u rz p file)

  over : (p : Bool) (file i : ℕ) → IsNewAt old a t u s ra ka p file i → IsNewAt old z t u s rz kz p file i
  over p file i n = record { behind = n.behind; within = omega (arith, n.within, lengths_same p file) }

  -- if the blocks before it are the same, no new block of a file is lower in the first image
  no_lower : (file : ℕ) → ((other : ℕ) → size_of t other < size_of u other → other ≡ file) → (p : Bool) (i : ℕ) → IsNewAt old a t u s ra ka p file i
      → ((p' : Bool) (j : ℕ) → turn p' j < turn p i → IsNewAt old a t u s ra ka p' file j → slice_index (part ra.layout p' file) j ≡ slice_index (part rz.layout p' file) j)
      → slice_index (part ra.layout p file) i < slice_index (part rz.layout p file) i → ⊥
  no_lower file only p i n before lower = elim (cases_Bool (has_free_bit z b)) [
    | inl free ↦ omega (arith, lower, kz.lowest.lowest c b taken_z taken_a.inside taken_a.was_free free)
    | inr used ↦
        let named = rz.marked_used b (taken_a.inside.0, omega (arith, taken_a.inside.1, count_same old t s, same_size)) (λ free. false≢true (sym used ∙ free)) in
        not_named named.0 named.1
  ]
    where
      b : ℕ
      b = slice_index (part ra.layout p file) i

      c : ℕ
      c = slice_index (part rz.layout p file) i

      taken_a : IsTaken old a b
      taken_a = new_taken old a t u s ra ka p file i n

      taken_z : IsTaken old z c
      taken_z = new_taken old z t u s rz kz p file i (over p file i n)

      same_size : u.blocks ≡ t.blocks
      same_size = omega (arith, ra.whole, s.whole, ka.kept.size)

      serves : HasDuty u ra.layout b (duty_in p file i)
      serves = part_serves a u ra p file i n.within

      -- it has no other use in the first image
      only_use : (duty : Duty) → HasDuty u ra.layout b duty → duty ≡ duty_in p file i
      only_use duty m = ra.fits.one_duty b duty (duty_in p file i) m serves

      -- nor is it another block of a file in the second
      not_part : (p' : Bool) (g j : ℕ) → HasDuty u rz.layout b (duty_in p' g j) → ⊥
      not_part p' g j m = elim (cases_lt j (length (part s.layout p' g))) [
        | inl was ↦
            let same = sym (front_stays old z t u s rz kz p' g j was at.0) ∙ at.1 in
            false≢true (sym (named_used old t s (slice_index (part s.layout p' g) j) (duty_in p' g j) (part_serves old t s p' g j was)) ∙ ap (has_free_bit old) same ∙ taken_a.was_free)
        | inr behind ↦
            let new : IsNewAt old z t u s rz kz p' g j = record { behind = behind; within = at.0 } in
            let same : g ≡ file = only g (longer old z t u s rz kz p' g j new) in
            of_file (subst (λ (h : ℕ). IsNewAt old z t u s rz kz p' h j) same new) (subst (λ (h : ℕ). slice_index (part rz.layout p' h) j ≡ b) same at.1)
      ]
        where
          at : (j < length (part rz.layout p' g)) × (slice_index (part rz.layout p' g) j ≡ b)
          at = part_back z u rz p' g j b m

          of_file : IsNewAt old z t u s rz kz p' file j → slice_index (part rz.layout p' file) j ≡ b → ⊥
          of_file new here = elim (cases_order (turn p' j) (turn p i)) [
            | inl e ↦ omega (arith, lower, here, same_position rz.layout file p' p j i e)
            | inr (inl l) ↦
                let first : IsNewAt old a t u s ra ka p' file j = record { behind = new.behind; within = omega (arith, new.within, lengths_same p' file) } in
                let there : slice_index (part ra.layout p' file) j ≡ b = before p' j l first ∙ here in
                let duty = only_use (duty_in p' file j) (subst (λ (x : ℕ). HasDuty u ra.layout x (duty_in p' file j)) there (part_serves a u ra p' file j first.within)) in
                omega (arith, l, same_turn file file p' p j i duty)
            | inr (inr l) ↦ omega (arith, lower, here, in_order old z t u s rz kz file p p' i j (over p file i n) new l)
          ]

      not_named : (duty : Duty) → HasDuty u rz.layout b duty → ⊥
      not_named (Duty.Page j) m = no_page p (only_use (Duty.Page j) (ap (λ (xs : List ℕ). slice_get xs j) pages_same ∙ m))
        where
          no_page : (p : Bool) → Duty.Page j ≡ duty_in p file i → ⊥
          no_page true e = cc e
          no_page false e = cc e
      not_named Duty.Key m = no_key p (only_use Duty.Key m)
        where
          no_key : (p : Bool) → Duty.Key ≡ duty_in p file i → ⊥
          no_key true e = cc e
          no_key false e = cc e
      not_named Duty.Lost m = no_lost p (only_use Duty.Lost m)
        where
          no_lost : (p : Bool) → Duty.Lost ≡ duty_in p file i → ⊥
          no_lost true e = cc e
          no_lost false e = cc e
      not_named (Duty.Data g j) m = not_part true g j m
      not_named (Duty.Extension g j) m = not_part false g j m

module _ (old a z : List ℕ) (t u : Tree) (s : Stands old t) (one : OneGrows t u) (ra : Stands a u) (rz : Stands z u) (ka : KeepsRest old a) (kz : KeepsRest old z) where
  -- the new blocks of the one longer file are the same, one after the other
  new_same : (file : ℕ) → size_of t file < size_of u file → (n : ℕ) (p : Bool) (i : ℕ) → turn p i < n → IsNewAt old a t u s ra ka p file i → slice_index (part ra.layout p file) i ≡ slice_index (part rz.layout p file) i
  new_same file grows zero p i l new = absurd (omega (arith, l))
  new_same file grows (suc n) p i l new = elim (cases_order (slice_index (part ra.layout p file) i) (slice_index (part rz.layout p file) i)) [
    | inl e ↦ e
    | inr (inl lower) ↦ absurd (no_lower old a z t u s ra rz ka kz file only p i new (λ p' j m new'. new_same file grows n p' j (omega (arith, l, m)) new') lower)
    | inr (inr higher) ↦
        absurd (no_lower old z a t u s rz ra kz ka file only p i (over old a z t u s ra rz ka kz p file i new)
        (λ p' j m new'. sym (new_same file grows n p' j (omega (arith, l, m)) (over old z a t u s rz ra kz ka p' file j new'))) higher)
  ]
    where
      only : (other : ℕ) → size_of t other < size_of u other → other ≡ file
      only other g = one other file g grows

  pub parts_same : (p : Bool) (file : ℕ) → part ra.layout p file ≡ part rz.layout p file
  parts_same p file = ext_get_or 0 (part ra.layout p file) (part rz.layout p file) (lengths_same old a z t u s ra rz ka kz p file) at
    where
      at : (i : ℕ) → i < length (part ra.layout p file) → slice_index (part ra.layout p file) i ≡ slice_index (part rz.layout p file) i
      at i l = elim (cases_lt i (length (part s.layout p file))) [
        | inl was ↦ front_stays old a t u s ra ka p file i was l ∙ sym (front_stays old z t u s rz kz p file i was (omega (arith, l, lengths_same old a z t u s ra rz ka kz p file)))
        | inr behind ↦
            let new : IsNewAt old a t u s ra ka p file i = record { behind = behind; within = l } in
            new_same file (longer old a t u s ra ka p file i new) (suc (turn p i)) p i (omega arith) new
      ]

  -- each block has the same use in both
  pub uses_agree : (b : ℕ) (duty : Duty) → HasDuty u ra.layout b duty → HasDuty u rz.layout b duty
  uses_agree b (Duty.Page i) m = ap (λ (xs : List ℕ). slice_get xs i) (sym (pages_same old a z t u s ra rz ka kz)) ∙ m
  uses_agree b Duty.Key m = m
  uses_agree b (Duty.Data file i) m = ap (λ (xs : List ℕ). slice_get xs i) (sym (parts_same true file)) ∙ m
  uses_agree b (Duty.Extension file i) m = ap (λ (xs : List ℕ). slice_get xs i) (sym (parts_same false file)) ∙ m
  uses_agree b Duty.Lost m = m

-- ---- one new key

-- a key that is new in a tree with no longer file
pub record IsOneNewKey (t u : Tree) (key : ℕ) : Type 0 where
  pub not_before : t.nodes key ≡ None
  pub no_loss : t.lost key ≡ None
  pub now : IsSome (u.nodes key)
  pub others : (k : ℕ) → k ≢ key → IsSome (u.nodes k) → IsSome (t.nodes k)
  pub lost : (block : ℕ) → u.lost block ≡ t.lost block
  pub sizes : (file : ℕ) → size_of u file ≤ size_of t file

module _ (old a z : List ℕ) (t u v : Tree) (s : Stands old t) (ra : Stands a u) (rz : Stands z v) (ka : KeepsRest old a) (kz : KeepsRest old z) (key other : ℕ) (x : IsOneNewKey t u key) (y : IsOneNewKey t v other) where
  -- a new key is not lower in one image
  key_not_lower : key < other → ⊥
  key_not_lower lower = elim (cases_Bool (has_free_bit z key)) [
    | inl free ↦ omega (arith, lower, kz.lowest.lowest other key (key_taken old z t v s rz kz other y.not_before y.now) taken.inside taken.was_free free)
    | inr used ↦
        let i = ra.fits.inside key Duty.Key x.now in
        let named = rz.marked_used key (i.0, omega (arith, i.1, ra.whole, rz.whole, ka.kept.size, kz.kept.size)) (λ free. false≢true (sym used ∙ free)) in
        not_named named.0 named.1
  ]
    where
      taken : IsTaken old a key
      taken = key_taken old a t u s ra ka key x.not_before x.now

      not_used : (duty : Duty) → HasDuty t s.layout key duty → ⊥
      not_used duty m = false≢true (sym (named_used old t s key duty m) ∙ taken.was_free)

      not_part : (p : Bool) (f i : ℕ) → HasDuty v rz.layout key (duty_in p f i) → ⊥
      not_part p f i m =
          let at = part_back z v rz p f i key m in
          elim (cases_lt i (length (part s.layout p f))) [
            | inl was ↦
                let same = sym (front_stays old z t v s rz kz p f i was at.0) ∙ at.1 in
                not_used (duty_in p f i) (subst (λ (b : ℕ). HasDuty t s.layout b (duty_in p f i)) same (part_serves old t s p f i was))
            | inr behind ↦ omega (arith, longer old z t v s rz kz p f i (record { behind = behind; within = at.0 }), y.sizes f)
          ]

      not_named : (duty : Duty) → HasDuty v rz.layout key duty → ⊥
      not_named (Duty.Page i) m =
          let at = slice_get-back rz.layout.pages i key m in
          let few : i < pages_of old = omega (arith, at.0, rz.fits.pages, count_same old t s, rz.whole, s.whole, kz.kept.size) in
          not_used (Duty.Page i) (page_serves old t s i few ∙ ap Some (sym (page_at old z t v s rz kz i at.0) ∙ at.1))
      not_named Duty.Key m = let was = y.others key (λ e. omega (arith, lower, e)) m in false≢true (sym (ap is_some x.not_before) ∙ was)
      not_named (Duty.Data f i) m = not_part true f i m
      not_named (Duty.Extension f i) m = not_part false f i m
      not_named Duty.Lost m = false≢true (sym (ap is_some (y.lost key ∙ x.no_loss)) ∙ m)

pub new_key_same : (old a z : List ℕ) (t u v : Tree) (s : Stands old t) (ra : Stands a u) (rz : Stands z v) (ka : KeepsRest old a) (kz : KeepsRest old z) (key other : ℕ) → IsOneNewKey t u key → IsOneNewKey t v other → other ≡ key
new_key_same old a z t u v s ra rz ka kz key other x y = elim (cases_order other key) [
  | inl e ↦ e
  | inr (inl lower) ↦ absurd (key_not_lower old z a t v u s rz ra kz ka other key y x lower)
  | inr (inr higher) ↦ absurd (key_not_lower old a z t u v s ra rz ka kz key other x y higher)
]
