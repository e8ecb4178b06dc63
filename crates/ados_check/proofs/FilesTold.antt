-- What any source has of the blocks of a walked image.
use Rattle.ados_check.proofs.Common.{◌≡◌, ◌≢◌, ℕ, zero, suc, ◌<◌, ◌≤◌, inl, inr, List, slice_index, Option, subst, sym, arith, block_sum, primary_type, DATA_TYPE, pointer_block, Role, Extension, IsOfs, Mark, TellsHeader, AreReached, IsMarkedEntry, TellsFields, SourceView, Tells, IsReachedEntry, IsReachedFile, HasCounts, ◌∙◌, Page, Data, IsPlace, IsSound, ◌+◌, page_block, pages_of, Root, root_of, root_page, IsChecked, TellsBitmap, mark_of}
use Rattle.ados_check.specs.PlacesTold.{TellsAll}
use Rattle.ados_check.proofs.Headers.{types_right}
use Rattle.ados_check.proofs.UpperNames.{entry_sound}
use Rattle.ados_check.proofs.Pointed.{blocks_upto}
use Rattle.ados_check.proofs.Linked.{block_sound}

module _ (source : SourceView) where
  tells_long : (block i : ℕ) → TellsAll source block → Tells source block i
  tells_long block i (inl whole) = inl whole
  tells_long block i (inr kept) = inr (kept.0, inr kept.1)

  -- all of a marked entry is available
  pub entry_told : (marks : List (Option Mark)) → AreReached source.bytes marks → (block dir : ℕ) → IsMarkedEntry marks block dir → TellsAll source block
  entry_told marks c block dir m =
      let entry = entry_sound source.bytes marks c block dir m in
      inr (entry.sum, λ z. omega (arith, entry.primary, z))

  pub long_told : (marks : List (Option Mark)) → AreReached source.bytes marks → (block dir i : ℕ) → IsMarkedEntry marks block dir → Tells source block i
  long_told marks c block dir i m = tells_long block i (entry_told marks c block dir m)

  module _ (file : ℕ) (r : IsReachedFile source.bytes file) where
    kept : (q : ℕ) → q ≤ r.extensions → (block_sum source.bytes (pointer_block source.bytes file q) ≡ 0) × (primary_type source.bytes (pointer_block source.bytes file q) ≢ DATA_TYPE)
    kept zero l = (r.sum, λ z. omega (arith, r.primary, z))
    kept (suc q) l =
        let fields = r.fields q (omega arith) in
        (fields.sum, λ z. omega (arith, fields.primary, z))

    -- all of a header or extension block of a file is available
    pub holder_all : (block q : ℕ) → block ≡ pointer_block source.bytes file q → q ≤ r.extensions → TellsAll source block
    holder_all block q e l = subst (TellsAll source) (sym e) (inr (kept q l))

    pub holder_told : (block q : ℕ) → block ≡ pointer_block source.bytes file q → q ≤ r.extensions → (i : ℕ) → Tells source block i
    holder_told block q e l i = tells_long block i (holder_all block q e l)

    -- its fields in its role are available
    pub fields_told : (entry : Role) → IsReachedEntry source.bytes file entry → (block q : ℕ) (role : Role) → block ≡ pointer_block source.bytes file q → q ≤ r.extensions → (q ≡ 0 → role ≡ entry) → (0 < q → role ≡ Extension file)
        → TellsFields source block role
    fields_told entry e block q role is l first further =
        inr ((λ _. subst (λ (b : ℕ). block_sum source.bytes b ≡ 0) (sym is) (kept q l).0), types_right source.bytes file r entry e q block role l is first further)

    -- the header of an OFS data block is available
    pub header_told : (count : ℕ) → HasCounts source.bytes file count → IsOfs source.bytes → (block place : ℕ) → block ≡ slice_index (blocks_upto source.bytes file count) place → place < count → TellsHeader source block
    header_told count h ofs block place e l = subst (TellsHeader source) (sym e) (inr (block_sound source.bytes file count r h ofs place l).sum)

    pub data_told : (count : ℕ) → HasCounts source.bytes file count → IsOfs source.bytes → (block place i : ℕ) → block ≡ slice_index (blocks_upto source.bytes file count) place → place < count → i < 6 → Tells source block i
    data_told count h ofs block place i e l few = subst (λ (b : ℕ). Tells source b i) (sym e) (inr ((block_sound source.bytes file count r h ofs place l).sum, inl few))

-- a place of a sound block is available
pub place_told : (source : SourceView) (block i : ℕ) (role next : Role) → IsPlace source.bytes block role i next → IsSound source.bytes block role → Tells source block i
place_told source block i Page next place sound = elim place [ ]
place_told source block i (Data file) next place sound = elim place [ ]
place_told source block i _ next place sound = inr (sound.sum, inr (λ e. let h = sym sound.primary ∙ e in cc h))

-- a whole image has everything
module _ (source : SourceView) (marks : List (Option Mark)) (c : IsChecked source.bytes marks) where
  pub root_told : (i : ℕ) → Tells source (root_of source.bytes) i
  root_told i =
      let sound = c.reached.sound (root_of source.bytes) (mark_of Root 0 0) c.reached.root in
      inr (sound.sum, inr (λ z. omega (arith, sound.primary, z)))

  page_sum : (p : ℕ) → p < pages_of source.bytes → block_sum source.bytes (page_block source.bytes p) ≡ 0
  page_sum p l =
      let marked = c.reached.marked (root_of source.bytes) (79 + p) (mark_of Root 0 0) Page c.reached.root (root_page l) in
      c.reached.sound (page_block source.bytes p) (mark_of Page (root_of source.bytes) (79 + p)) marked

  -- the checksum of a bitmap block is always available; it is at the position of the primary type in other blocks
  pub page_first : (p : ℕ) → p < pages_of source.bytes → Tells source (page_block source.bytes p) 0
  page_first p l = inr (page_sum p l, inl (omega arith))

  pub bitmap_told : ((p : ℕ) → p < pages_of source.bytes → primary_type source.bytes (page_block source.bytes p) ≢ DATA_TYPE) → TellsBitmap source
  bitmap_told other = record { root = root_told; page = λ p i l. inr (page_sum p l, inr (other p l)) }
