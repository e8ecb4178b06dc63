-- The entries to which the root leads are blocks of the image.
use Rattle.ados_salvage.proofs.Common.{◌≡◌, ℕ, ◌<◌, All, List, sym, subst, arith, block_count}
use Rattle.adf_block.specs.Whole.{IsImage}
use Rattle.ados_model.specs.declared.role.Role.{Role}
use Rattle.ados_model.specs.Faults.{Reached}
use Rattle.ados_model.specs.Faults.Reached.{named, start}
use Rattle.ados_salvage.specs.Found.{AreEntries}

module _ (image : List ℕ) (im : IsImage image) where
  inside : {block : ℕ} {role : Role} → Reached image block role → block < block_count image
  inside start = omega (arith, im.whole, im.size.0)
  inside (named h p within) = within.1

  pub entries_inside : (entries given : List ℕ) → AreEntries image entries → given ≡ entries → All (λ header. header < block_count image) given
  entries_inside entries given are same = subst (All (λ (header : ℕ). header < block_count image)) (sym same) (λ k d l. inside (are.each k d l).2)
