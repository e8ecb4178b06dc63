-- Each fault that an image shows is noted: at a step, in a directory, or at a file.
use Rattle.ados_faults.proofs.Common.{ℕ, ◌+◌, List, Bool, inl, inr, sym, subst, arith, slice_get, IsImage, FaultKind, DuplicateName, BadCount, Shows, kind_of_data, IsOtherKind, AreAllFilesNoted, IsFileNoted, IsPlaceNoted, AreDuplicatesNoted, AreStillNoted, IsNoted, cell_of}
use Rattle.ados_model.specs.Faults
use Rattle.ados_check.proofs.NameLemmas.{length_text}
use Rattle.ados_check.proofs.UpperNames.{upper_names_equal}
use Rattle.ados_faults.proofs.AtSteps.{AreStepsNoted, ShowsFurther, noted_or_further}
use Rattle.ados_faults.proofs.Insides.{reached_inside}

-- names and files were gone through, and what they show is still noted
pub record AreFurtherNoted (image : List ℕ) (cells : List Bool) : Type 0 where
  pub filed : List Bool
  pub files : AreAllFilesNoted image filed
  pub after_files : AreStillNoted filed cells
  pub named : List Bool
  pub names : AreDuplicatesNoted image named
  pub after_names : AreStillNoted named cells
  pub disk : (kind : FaultKind) → IsOtherKind image kind → IsNoted cells (cell_of kind 0)

module _ (image : List ℕ) (im : IsImage image) (last : List Bool) (f : AreFurtherNoted image last) where
  file_of : (file : ℕ) → Faults.IsFile image file → IsFileNoted image f.filed file
  file_of file h = f.files.noted file h

  -- what the block shows as data block i of a file
  place_of : (file i block : ℕ) (blocks : List ℕ) → Faults.IsOfs image → Faults.IsDataAt image file blocks i block → IsPlaceNoted image f.filed block i (slice_get blocks (i + 1))
  place_of file i block blocks ofs at =
      subst (λ (b : ℕ). IsPlaceNoted image f.filed b i (slice_get blocks (i + 1))) at.here
      ((((file_of file at.of_file.is_file).noted blocks at.of_file).places ofs).placed i (omega arith) at.within (subst (Faults.InImage image) (sym at.here) at.inside))

  name_noted : (block : ℕ) → Faults.HasDuplicateName image block → IsNoted last (cell_of DuplicateName block)
  name_noted block h =
      let same = upper_names_equal image block h.other (sym (length_text image block (reached_inside image im h.reached).1 h.short)) (sym (length_text image h.other (reached_inside image im h.other_reached).1 h.other_short)) h.same in
      f.after_names.stay (cell_of DuplicateName block) ((f.names.noted h.dir).noted block h.other h.slot_of_chain h.other_slot h.reached h.other_reached h.short h.other_short same h.two)

  further_noted : (kind : FaultKind) (block : ℕ) → ShowsFurther image kind block → IsNoted last (cell_of kind block)
  further_noted kind block (ShowsFurther.disk other here) = subst (λ (b : ℕ). IsNoted last (cell_of kind b)) (sym here) (f.disk kind other)
  further_noted kind block (ShowsFurther.name h) = name_noted block h
  further_noted kind block (ShowsFurther.placed {file = g} {i = i} {blocks = b} ofs at rule broken) = f.after_files.stay (cell_of (kind_of_data rule) block) ((place_of g i block b ofs at).each rule broken)
  further_noted kind block (ShowsFurther.size {blocks = b} d n) = f.after_files.stay (cell_of BadCount block) (((file_of block d.is_file).noted b d).count n)
  further_noted kind block (ShowsFurther.sum ofs h) =
      f.after_files.stay (cell_of BadCount block) (((file_of block h.of_file.is_file).noted h.blocks h.of_file).sum ofs (h.inside, h.wrong))

  pub each_noted : AreStepsNoted image last → (kind : FaultKind) (block : ℕ) → Shows image kind block → IsNoted last (cell_of kind block)
  each_noted w kind block h = elim (noted_or_further image last w kind block h) [ inl noted ↦ noted | inr further ↦ further_noted kind block further ]
