-- The uses of blocks before and after a change.
use Rattle.ados_change.proofs.Common.{◌≡◌, ℕ, ◌<◌, ◌⊎◌, inl, inr, List, length, slice_get, Option, Some, None, IsSome, refl, sym, ap, ◌∙◌, subst, arith, block_count, IsInside, HasFreeBit, ext_get_or, nil_from_length, slice_get-back, no_data, size_in, count_same, page_block, pages_of, data_count, extension_count, Content, Tree, content_at, size_of, Directory, File, Duty, HasDuty, Layout, Stands, content_in, one_tree, KeepsUntold, KeepsUses, KeepsKinds, HasFileKey}
use Rattle.ados_change.proofs.FilesStay.{has_bytes}
use Rattle.ados_change.proofs.Writable.{data_is, extensions_is, page_serves}

-- ---- one image

module _ (image : List ℕ) (t : Tree) (s r : Stands image t) where
  same_pages : s.layout.pages ≡ r.layout.pages
  same_pages = ext_get_or 0 s.layout.pages r.layout.pages (s.fits.pages ∙ sym r.fits.pages) (λ i l. sym (s.root_fields.pages i l) ∙ r.root_fields.pages i (omega (arith, l, s.fits.pages, r.fits.pages)))

  same_lists : (file : ℕ) → (s.layout.file_data file ≡ r.layout.file_data file) × (s.layout.extensions file ≡ r.layout.extensions file)
  same_lists file = go (content_at t file) refl
    where
      none : size_of t file ≡ 0 → (s.layout.file_data file ≡ r.layout.file_data file) × (s.layout.extensions file ≡ r.layout.extensions file)
      none e =
          let a : length (s.layout.file_data file) ≡ 0 = s.fits.file_data file ∙ ap (data_count t.format) e ∙ no_data t.format in
          let b : length (r.layout.file_data file) ≡ 0 = r.fits.file_data file ∙ ap (data_count t.format) e ∙ no_data t.format in (
            nil_from_length (s.layout.file_data file) a ∙ sym (nil_from_length (r.layout.file_data file) b),
            nil_from_length (s.layout.extensions file) (s.fits.extensions file ∙ ap extension_count a) ∙ sym (nil_from_length (r.layout.extensions file) (r.fits.extensions file ∙ ap extension_count b)),
          )

      go : (o : Option Content) → content_at t file ≡ o → (s.layout.file_data file ≡ r.layout.file_data file) × (s.layout.extensions file ≡ r.layout.extensions file)
      go None e = none (ap size_in e)
      go (Some (Directory keys)) e = none (ap size_in e)
      go (Some (File bytes)) e =
          let m = content_in (t.nodes file) (File bytes) e in (
            sym (data_is image t s file m.0 bytes m.1 m.2) ∙ data_is image t r file m.0 bytes m.1 m.2,
            sym (extensions_is image t s file m.0 bytes m.1 m.2) ∙ extensions_is image t r file m.0 bytes m.1 m.2,
          )

  agree : (block : ℕ) (duty : Duty) → HasDuty t r.layout block duty → HasDuty t s.layout block duty
  agree block (Duty.Page i) m = ap (λ (xs : List ℕ). slice_get xs i) same_pages ∙ m
  agree block Duty.Key m = m
  agree block (Duty.Data file i) m = ap (λ (xs : List ℕ). slice_get xs i) (same_lists file).0 ∙ m
  agree block (Duty.Extension file i) m = ap (λ (xs : List ℕ). slice_get xs i) (same_lists file).1 ∙ m
  agree block Duty.Lost m = m

-- a block has one use in an image
pub same_use : (image : List ℕ) (t u : Tree) (s : Stands image t) (r : Stands image u) (block : ℕ) (duty : Duty) → HasDuty u r.layout block duty → HasDuty t s.layout block duty
same_use image t u s r block duty =
    subst (λ (v : Tree). (q : Stands image v) → HasDuty v q.layout block duty → HasDuty t s.layout block duty) (one_tree image t u s r) (λ q. agree image t s q block duty) r

-- ---- two images

-- it is enough to look at one tree and one layout of each
pub uses_of : (old new : List ℕ) (t u : Tree) (s : Stands old t) (r : Stands new u)
    → ((block : ℕ) (duty : Duty) → HasDuty u r.layout block duty → HasDuty t s.layout block duty ⊎ HasFreeBit old block) → KeepsUses old new
uses_of old new t u s r each t' u' s' r' block duty m = elim (each block duty (same_use new u u' r r' block duty m)) [
  | inl k ↦ inl (same_use old t' t s' s block duty k)
  | inr free ↦ inr free
]

-- nothing changes
pub uses_same : (image : List ℕ) → KeepsUses image image
uses_same image t u s r block duty m = inl (same_use image t u s r block duty m)

-- one change after the other, if the first frees no block
pub uses_both : (old mid new : List ℕ) (m : Tree) (q : Stands mid m) → block_count new ≡ block_count old → KeepsUses old mid → KeepsUses mid new
    → ((block : ℕ) → IsInside (block_count old) block → HasFreeBit mid block → HasFreeBit old block) → KeepsUses old new
uses_both old mid new m q count first second back t u s r block duty serves = elim (second m u q r block duty serves) [
  | inl between ↦ first t m s q block duty between
  | inr free ↦ let i = r.fits.inside block duty serves in inr (back block (i.0, omega (arith, i.1, count_same new u r, count)) free)
]

-- the key of a file in a tree is one in the image
pub has_key : (image : List ℕ) (t : Tree) (s : Stands image t) (file : ℕ) {bytes : List ℕ} → content_at t file ≡ Some (File bytes) → HasFileKey image file
has_key image t s file {bytes} e v q = (bytes, has_bytes image t s file bytes e v q)

-- the same for the kinds of keys
pub kinds_both : (old mid new : List ℕ) (u : Tree) (r : Stands new u) → block_count new ≡ block_count old → KeepsKinds old mid → KeepsKinds mid new
    → ((block : ℕ) → IsInside (block_count old) block → HasFreeBit mid block → HasFreeBit old block) → KeepsKinds old new
kinds_both old mid new u r count first second back file key = elim (second file key) [
  | inl between ↦ first file between
  | inr free ↦
      let c = key u r in
      let a = content_in (u.nodes file) (File c.0) c.1 in
      let i = r.proper.inside file a.0 a.1 in
      inr (back file (i.0, omega (arith, i.1, count_same new u r, count)) free)
]

-- the layout is the same
pub uses_laid : (old new : List ℕ) (t u : Tree) (s : Stands old t) (r : Stands new u) → r.layout ≡ s.layout
    → ((key : ℕ) → IsSome (u.nodes key) → IsSome (t.nodes key) ⊎ HasFreeBit old key) → ((block : ℕ) → u.lost block ≡ t.lost block) → KeepsUses old new
uses_laid old new t u s r same keys lost = uses_of old new t u s r go
  where
    go : (block : ℕ) (duty : Duty) → HasDuty u r.layout block duty → HasDuty t s.layout block duty ⊎ HasFreeBit old block
    go block (Duty.Page i) m = inl (ap (λ (l : Layout). slice_get l.pages i) (sym same) ∙ m)
    go block Duty.Key m = keys block m
    go block (Duty.Data file i) m = inl (ap (λ (l : Layout). slice_get (l.file_data file) i) (sym same) ∙ m)
    go block (Duty.Extension file i) m = inl (ap (λ (l : Layout). slice_get (l.extensions file) i) (sym same) ∙ m)
    go block Duty.Lost m = inl (subst IsSome (lost block) m)

-- each file had its bytes before, and keeps its lists
module _ (old new : List ℕ) (t u : Tree) (s : Stands old t) (r : Stands new u) (count : block_count new ≡ block_count old) (untold : KeepsUntold old new)
    (keys : (key : ℕ) → IsSome (u.nodes key) → IsSome (t.nodes key)) (lost : (block : ℕ) → u.lost block ≡ t.lost block)
    (files : (file : ℕ) (bytes : List ℕ) → content_at u file ≡ Some (File bytes) → content_at t file ≡ Some (File bytes)) where
  lists_stay : (file : ℕ) → ((r.layout.file_data file ≡ s.layout.file_data file) × (r.layout.extensions file ≡ s.layout.extensions file)) ⊎ (length (r.layout.file_data file) ≡ 0)
  lists_stay file = go (content_at u file) refl
    where
      none : size_of u file ≡ 0 → length (r.layout.file_data file) ≡ 0
      none e = r.fits.file_data file ∙ ap (data_count u.format) e ∙ no_data u.format

      go : (o : Option Content) → content_at u file ≡ o → ((r.layout.file_data file ≡ s.layout.file_data file) × (r.layout.extensions file ≡ s.layout.extensions file)) ⊎ (length (r.layout.file_data file) ≡ 0)
      go None e = inr (none (ap size_in e))
      go (Some (Directory keys)) e = inr (none (ap size_in e))
      go (Some (File bytes)) e =
          let before = files file bytes e in
          let a = content_in (t.nodes file) (File bytes) before in
          let b = content_in (u.nodes file) (File bytes) e in
          let kept = untold.other_data file bytes (has_bytes old t s file bytes before) (has_bytes new u r file bytes e) in
          inl (
            sym (data_is new u r file b.0 bytes b.1 b.2) ∙ kept.blocks ∙ data_is old t s file a.0 bytes a.1 a.2,
            sym (extensions_is new u r file b.0 bytes b.1 b.2) ∙ kept.extensions ∙ extensions_is old t s file a.0 bytes a.1 a.2,
          )

  pub kinds_stay : KeepsKinds old new
  kinds_stay file key = let c = key u r in inl (has_key old t s file (files file c.0 c.1))

  pub uses_stay : KeepsUses old new
  uses_stay = uses_of old new t u s r go
    where
      go : (block : ℕ) (duty : Duty) → HasDuty u r.layout block duty → HasDuty t s.layout block duty ⊎ HasFreeBit old block
      go block (Duty.Page i) m =
          let at = slice_get-back r.layout.pages i block m in
          let now : i < pages_of new = omega (arith, at.0, r.fits.pages, count_same new u r) in
          let within : i < pages_of old = omega (arith, now, count) in
          let here : Some (page_block new i) ≡ Some block = sym (page_serves new u r i now) ∙ m in
          inl (page_serves old t s i within ∙ ap Some (sym (untold.past_end.pages i within)) ∙ here)
      go block Duty.Key m = inl (keys block m)
      go block (Duty.Data file i) m = elim (lists_stay file) [
        | inl same ↦ inl (ap (λ (xs : List ℕ). slice_get xs i) (sym same.0) ∙ m)
        | inr none ↦ absurd (let at = slice_get-back (r.layout.file_data file) i block m in omega (arith, at.0, none))
      ]
      go block (Duty.Extension file i) m = elim (lists_stay file) [
        | inl same ↦ inl (ap (λ (xs : List ℕ). slice_get xs i) (sym same.1) ∙ m)
        | inr none ↦ absurd (let at = slice_get-back (r.layout.extensions file) i block m in omega (arith, at.0, r.fits.extensions file, none))
      ]
      go block Duty.Lost m = inl (subst IsSome (lost block) m)
