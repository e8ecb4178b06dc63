-- The output of `validate`: the numbers of an image with a new bitmap, or nothing.
use Rattle.std.proofs.Common.{◌≡◌, ℕ, inl, inr, Bool, List, Option, Ok, Err, IsErrAnd, sym, ap₂, ◌∙◌, subst}
use Rattle.std.proofs.KnownBytes.{Keeps-refl}
use Rattle.ados_model.specs.Faults.{Shows}
use Rattle.ados_model.specs.declared.fault.VolumeFault.{VolumeFault}
use Rattle.ados_validate.specs.Answer.{IsNew}
use Rattle.ados_validate.specs.Said.{validated_text}
use Rattle.ados_validate.specs.declared.answer.Validated.{Validated}
use Rattle.adf_serve.specs.declared.fault.CommandFault.{CommandFault}
use Rattle.adf_serve.specs.declared.fault.CommandFault.TheVariants.{Dos, Refused}
use Rattle.adf_serve.specs.Commands.{Ending, LeavesOff, TellsOf}
use Rattle.adf_serve.specs.Faults.{IsNoRefusal, IsRefusedAs, IsToldAs}
use Rattle.adf_serve.specs.Texts.{IsCountText}
use Rattle.adf_serve.proofs.Printing.{leaves_nothing}

-- the numbers of a new bitmap
pub counted : (json : Bool) (image : List ℕ) (force : Bool) (new : Validated) (text : List ℕ) → IsNew image force new → text ≡ validated_text json new.were_free new.were_used → IsCountText json image text
counted json image force new text is e = (new.image, is.validated, e ∙ ap₂ (validated_text json) is.freed is.used)

-- a fault that the image shows is told as its refusal
pub refused_as : (image : List ℕ) (fault : VolumeFault) (told : CommandFault) → Shows image fault.kind fault.block → IsToldAs fault told → IsRefusedAs image told
refused_as image fault (Refused refusal) shows (no_want, kind, block) = (fault.kind, subst (Shows image fault.kind) (sym block) shows, kind)
refused_as image fault (Dos refusal) shows t = absurd (let same = t.0 in cc same)
refused_as image fault told shows t = tt

leaves_as : (IsText : List ℕ → Type 0) (image : List ℕ) (w : Option (List ℕ)) (fault : CommandFault) → IsRefusedAs image fault → LeavesOff IsText image w w fault
leaves_as IsText image w (Refused refusal) h = (inr h, Keeps-refl w)
leaves_as IsText image w (Dos refusal) h = absurd h
leaves_as IsText image w fault h = inl (Keeps-refl w)

-- nothing is written for a refused image
pub tells_as : (IsText BeginsText : List ℕ → List ℕ → Type 0) (image : List ℕ) (w : Option (List ℕ)) (fault : CommandFault) (done : Ending) → IsRefusedAs image fault
    → IsErrAnd done (λ told. told ≡ fault) → TellsOf IsText BeginsText image w w done
tells_as IsText BeginsText image w fault (Ok x) is same = absurd same
tells_as IsText BeginsText image w fault (Err told) is same = leaves_as (BeginsText image) image w told (subst (IsRefusedAs image) (sym same) is)

-- nothing is written if the new image is not
pub tells_unwritten : (IsText BeginsText : List ℕ → List ℕ → Type 0) (image : List ℕ) (w : Option (List ℕ)) (fault : CommandFault) (done : Ending) → IsNoRefusal fault
    → IsErrAnd done (λ told. told ≡ fault) → TellsOf IsText BeginsText image w w done
tells_unwritten IsText BeginsText image w fault (Ok x) plain same = absurd same
tells_unwritten IsText BeginsText image w fault (Err told) plain same = leaves_nothing (BeginsText image) image w told (subst IsNoRefusal (sym same) plain)
