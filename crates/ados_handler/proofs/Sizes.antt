-- A file has at most as many data blocks as the volume has blocks, so its size is below 2^31.
use Rattle.std.proofs.Common.{◌≡◌, ◌≢◌, ℕ, ◌<◌, ◌≤◌, List, length, slice_index, Some, sym, ap, ◌∙◌, subst, arith}
use Rattle.std.proofs.lemmas.Map.Made.{IsDistinct-from_AllPairs}
use Rattle.std.proofs.lemmas.Map.Steps.{length-le_from_distinct_below}
use Rattle.ados_handler.proofs.Common.{Decides-eqb, get_or_default, Ofs, Ffs, data_count, Tree, size_of, Duty, Stands}
use Rattle.adf_block.specs.declared.layout.Format.{Format}
use Rattle.ados_model.proofs.Standing.{slice_get-index}
use Rattle.ados_model.proofs.KeyLists.{below_bound}

-- this many data blocks hold at most this many bytes
size_bound : (format : Format) (size blocks : ℕ) → data_count format size ≤ blocks → blocks ≤ 101602 → size ≤ 52020224
size_bound Ofs size blocks fits small = omega arith
size_bound Ffs size blocks fits small = omega arith

module _ (image : List ℕ) (t : Tree) (s : Stands image t) (file : ℕ) where
  -- the file's data blocks
  abbrev data_blocks : List ℕ
  data_blocks = s.layout.file_data file

  serves_once : (i j : ℕ) → i < j → j < length data_blocks → slice_index data_blocks i ≢ slice_index data_blocks j
  serves_once i j before within same =
      let duty = s.fits.one_duty (slice_index data_blocks i) (Duty.Data file i) (Duty.Data file j) (slice_get-index data_blocks i (omega arith)) (slice_get-index data_blocks j within ∙ ap Some (sym same)) in
      let places : i ≡ j = cc duty in
      omega arith

  few_blocks : length data_blocks ≤ t.blocks
  few_blocks =
      length-le_from_distinct_below data_blocks t.blocks
      (IsDistinct-from_AllPairs Decides-eqb data_blocks (λ i j d l m e. serves_once i j l m (get_or_default data_blocks i 0 d (omega (arith, l, m)) ∙ e ∙ get_or_default data_blocks j d 0 m)))
      (λ q any. below_bound data_blocks t.blocks q (λ i l. (s.fits.inside (slice_index data_blocks i) (Duty.Data file i) (slice_get-index data_blocks i l)).1) any)

  -- 101,602 blocks hold at most 52,020,224 bytes
  pub size_small : size_of t file ≤ 52020224
  size_small = size_bound t.format (size_of t file) t.blocks (subst (λ (n : ℕ). n ≤ t.blocks) (s.fits.file_data file) few_blocks) s.proper.size.1
