-- A change of entries leaves untouched what no tree determines, step by step: the bitmap past the volume's end, and
-- the data blocks of files.
use Rattle.ados_change.proofs.Common.{◌≡◌, ℕ, ◌+◌, ◌/◌, ◌<◌, ◌≤◌, ◌⊎◌, inl, inr, Bool, List, refl, sym, ap, ◌∙◌, subst, arith, SameBut, IsInside, block_count, has_free_bit, page_count, long, root_key, same_count, same_long, same_weaken, HasFreeBit, MapPlace, BitChanged, HasBit, LawfulPages, page_block, page_of, pages_of, bit_of_inside, Tree, Proper, root, Duty, HasDuty, Layout, Stands, InImage, HasFileKey, KeepsBlock, KeepsFreed, KeepsData, KeepsPastEnd, KeepsUntold, data_at, count_same, mark_kept, IsChanged, IsPage, IsWritten, of_none, of_node, of_name, of_comment, bits, cases_lt}
use Rattle.ados_data.proofs.Marks.{page_kept}
use Rattle.ados_change.proofs.Writable.{data_is, extensions_is, page_serves}
use Rattle.ados_change.proofs.FilesStay.{data_serves, file_of_key, files_stay}
use Rattle.ados_change.proofs.EntriesKept.{unwritten, written_changed, plain_at}
use Rattle.ados_change.proofs.Loose.{Spells, layout_is, stands}

-- ---- the bitmap

module _ (old : List ℕ) (t : Tree) (st : Stands old t) where
  -- a byte outside all bitmap blocks and outside the root's longs for them
  pub record IsOffMap (b i : ℕ) : Type 0 where
    pub no_page : ¬ IsPage old t st b
    pub no_name : b ≡ root t → (i / 4 < 79) ⊎ (105 ≤ i / 4)

  -- the footprint of a change apart from bitmap blocks
  pub written_off : (new m m' : List ℕ) → SameBut (IsWritten old t st new) m m' → SameBut IsOffMap m m'
  written_off new m m' h = same_weaken (IsWritten old t st new) IsOffMap m m' (λ b i w. record { no_page = λ p. unwritten old t st new b i (Duty.Page p.0) p.1 (λ z. cc z) w; no_name = λ e. off e w }) h
    where
      off : {b i : ℕ} → b ≡ root t → IsWritten old t st new b i → (i / 4 < 79) ⊎ (105 ≤ i / 4)
      off e (of_none l used none) = absurd (none Duty.Key (rw (ap t.nodes e ∙ st.proper.root_node.1) refl))
      off {i = i} e (of_node n at p) = elim (cases_lt (i / 4) 79) [ inl l ↦ inl l | inr l ↦ inr (omega (arith, e, l, plain_at p)) ]
      off e (of_name n at text short) = inr (omega (arith, text.0))
      off e (of_comment n at o text short) = absurd (o e)

  -- ---- the bits past the volume's end

  -- an image of this size with these bitmap blocks in its root
  pub record HasPages (m : List ℕ) : Type 0 where
    pub count : block_count m ≡ t.blocks
    pub serves : (p : ℕ) → p < pages_of m → IsPage old t st (page_block m p)

  pub old_pages : HasPages old
  old_pages = record { count = count_same old t st; serves = λ p l. (p, page_serves old t st p l) }

  pub pages_after : (m m' : List ℕ) → block_count m' ≡ block_count m → KeepsPastEnd m m' → HasPages m → HasPages m'
  pages_after m m' same k h = record {
    count = same ∙ h.count;
    serves = λ p l.
        let before : p < pages_of m = omega (arith, l, ap page_count same) in
        subst (IsPage old t st) (sym (k.pages p before)) (h.serves p before);
  }

  off_pages : (m m' : List ℕ) → HasPages m → SameBut IsOffMap m m' → (p : ℕ) → p < pages_of m → page_block m' p ≡ page_block m p
  off_pages m m' h off p l =
      let size = st.proper.size in
      ap (λ (n : ℕ). long m' (root_key n) (79 + p)) (same_count IsOffMap m m' off)
      ∙ same_long IsOffMap m m' off (root_key (block_count m)) (79 + p) (omega (arith, l, h.count, size.1))
      (λ k e w. elim (w.no_name (ap root_key h.count)) [ inl x ↦ omega (arith, e, x) | inr x ↦ omega (arith, e, x, l, h.count, size.1) ])

  -- all bits are unchanged
  pub off_marks : (m m' : List ℕ) → HasPages m → SameBut IsOffMap m m' → (k : ℕ) → HasBit m k → has_free_bit m' k ≡ has_free_bit m k
  off_marks m m' h off = mark_kept IsOffMap m m' off (off_pages m m' h off) (λ p i l n w. w.no_page (h.serves p l))

  pub off_past_end : (m m' : List ℕ) → HasPages m → SameBut IsOffMap m m' → KeepsPastEnd m m'
  off_past_end m m' h off = record { pages = off_pages m m' h off; bits = λ k has past. off_marks m m' h off k has }

  pub bit_past_end : (m m' : List ℕ) (key : ℕ) (free : Bool) → HasPages m → LawfulPages m → IsInside (block_count m) key → BitChanged m key free m' → KeepsPastEnd m m'
  bit_past_end m m' key free h lawful inside r =
      let size = st.proper.size in
      let own : page_of key < pages_of m = omega (arith, inside.0, inside.1) in
      record {
        pages = page_kept (MapPlace m key) m m' r.rest (omega (arith, h.count, size.1)) (λ k w. lawful.beside_root (page_of key) own (sym w.0));
        bits = λ k has past. r.others k has (λ e. omega (arith, e, past, inside.1));
      }

-- ---- free blocks

module _ (old new : List ℕ) (t : Tree) (st : Stands old t) where
  -- a block that was free and still is has its old bytes
  pub freed_stays : SameBut (IsChanged old t st new) old new → (b : ℕ) → InImage old b → HasFreeBit old b → HasFreeBit new b → KeepsBlock b old new
  freed_stays h b inside was is i l = h.same_byte b i l go
    where
      unused : (duty : Duty) → ¬ HasDuty t st.layout b duty
      unused duty m = st.marked_free b (inside.0, omega (arith, inside.1, count_same old t st)) was (duty, m)

      go : ¬ IsChanged old t st new b i
      go (inl p) = unused (Duty.Page p.0) p.1
      go (inr (of_none m used none)) = used is
      go (inr (of_node a e p)) = unused Duty.Key (rw e refl)
      go (inr (of_name a e text short)) = unused Duty.Key (rw e refl)
      go (inr (of_comment a e n text short)) = unused Duty.Key (rw e refl)

  -- a change that writes no bitmap block changes no bit
  module _ (h : SameBut (IsWritten old t st new) old new) where
    pub past_end : KeepsPastEnd old new
    past_end = off_past_end old t st old new (old_pages old t st) (written_off old t st new old new h)

    pub marks_stay : (b : ℕ) → InImage old b → has_free_bit new b ≡ has_free_bit old b
    marks_stay b inside = off_marks old t st old new (old_pages old t st) (written_off old t st new old new h) b (bit_of_inside old b inside)

    pub keeps_freed : KeepsFreed old new
    keeps_freed b inside free = freed_stays (written_changed old t st new old new h) b inside (sym (marks_stay b inside) ∙ free) free

-- ---- the files

module _ (old new : List ℕ) (t u : Tree) (st : Stands old t) (after : Spells new u st.layout) (proper : Proper u) where
  abbrev now : Stands new u
  now = stands new u st.layout proper after

  -- at these places there is no data block
  module _ (At : ℕ → ℕ → Type 0) (h : SameBut At old new) (unwritten : (b i file q : ℕ) → HasDuty t st.layout b (Duty.Data file q) → ¬ At b i) where
    data_stays : (file : ℕ) → HasFileKey old file → HasFileKey new file → KeepsData old new file
    data_stays file was is =
        let a = file_of_key old t st file was in
        let b = file_of_key new u now file is in
        record {
          blocks = data_is new u now file b.node b.bytes b.at b.content ∙ ap (λ (l : Layout). l.file_data file) (layout_is new u st.layout proper after) ∙ sym (data_is old t st file a.node a.bytes a.at a.content);
          extensions = extensions_is new u now file b.node b.bytes b.at b.content ∙ ap (λ (l : Layout). l.extensions file) (layout_is new u st.layout proper after) ∙ sym (extensions_is old t st file a.node a.bytes a.at a.content);
          bytes = λ q i l m. h.same_byte (data_at old file q) i m (unwritten (data_at old file q) i file q (data_serves old t st file a q l));
        }

    pub untold_beside : KeepsPastEnd old new → KeepsUntold old new
    untold_beside past = files_stay old new past data_stays

  pub untold_kept : SameBut (IsChanged old t st new) old new → KeepsPastEnd old new → KeepsUntold old new
  untold_kept h = untold_beside (IsChanged old t st new) h (λ b i file q m w. elim w [
    | inl p ↦ let duty = st.fits.one_duty b (Duty.Page p.0) (Duty.Data file q) p.1 m in cc duty
    | inr w ↦ unwritten old t st new b i (Duty.Data file q) m (λ z. cc z) w
  ])
