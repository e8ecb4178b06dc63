-- The deleted entries, in the image as they were read.
use Rattle.ados_salvage.proofs.Common.{◌≡◌, ℕ, Bool, false, List, [], sym, subst, AreGathered, AreGatheredBy, Deleted, Gathered, IsTrustedBitmap, Known}
use Rattle.ados_salvage.specs.Deleted.{ListsDeleted}
use Rattle.ados_salvage.specs.Listing.{AreFoundIn}
use Rattle.ados_salvage.specs.steps.Undeleting.{AreHeaders}

module _ (image : List ℕ) (known : Known) (deleted : List Deleted) (is : AreFoundIn image known deleted) where
  pub headers_sound : (given : List Deleted) → given ≡ deleted → AreHeaders known.image given
  headers_sound given same = subst (λ (xs : List ℕ). AreHeaders xs given) (sym is.same) (subst (AreHeaders image) (sym same) (λ k d l. (is.listed.told k d l).0.header))

  pub trusted_in : IsTrustedBitmap image → IsTrustedBitmap known.image
  trusted_in trusted = subst IsTrustedBitmap (sym is.same) trusted

  pub listed_in : ListsDeleted known.image deleted
  listed_in = subst (λ (xs : List ℕ). ListsDeleted xs deleted) (sym is.same) is.listed

  -- nothing is left out, nothing was told before, nothing is a hole, and fillers do not count
  pub gathered_plain : (gathered : Gathered) → AreGatheredBy known gathered → AreGathered 0 [] [] false known.image gathered
  gathered_plain gathered by = subst (λ (fillers : Bool). AreGathered 0 [] [] fillers known.image gathered) is.uncounted
      (subst (λ (holes : List Bool). AreGathered 0 [] holes known.fillers known.image gathered) is.no_holes
      (subst (λ (out : List ℕ). AreGathered 0 out known.holes.items known.fillers known.image gathered) is.none_left_out
      (subst (λ (n : ℕ). AreGathered n known.left_out known.holes.items known.fillers known.image gathered) is.none_before by.so_far)))
