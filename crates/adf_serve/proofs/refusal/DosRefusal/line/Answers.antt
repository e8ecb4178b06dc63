use Rattle.std.proofs.Common.{◌≡◌, ℕ, ℤ, List, [], ◌∷◌, ◌++◌, pos, to_z, of_z, w32, refl, ap, ◌∙◌, append_assoc}
use Rattle.std.specs.Prelude.{codes, decimal}
use Rattle.std.specs.Fmt.{signed_decimal}
use Rattle.ados_model.specs.Packet.{error_number}
use Rattle.ados_model.specs.declared.dos_error.DosError.{DosError}
use Rattle.ados_model.specs.declared.dos_error.DosError.TheVariants as errors
use Rattle.adf_serve.proofs.refusal.DosRefusal.line.Goals as goal

-- the number of an error as an `i32`
shown_number : (error : DosError) → signed_decimal (to_z w32 (of_z w32 (pos (error_number error)))) ≡ decimal (error_number error)
shown_number errors.NoFreeStore = refl
shown_number errors.ObjectInUse = refl
shown_number errors.ObjectExists = refl
shown_number errors.DirectoryNotFound = refl
shown_number errors.ObjectNotFound = refl
shown_number errors.ActionNotKnown = refl
shown_number errors.InvalidComponentName = refl
shown_number errors.InvalidLock = refl
shown_number errors.ObjectWrongType = refl
shown_number errors.DirectoryNotEmpty = refl
shown_number errors.DeviceNotMounted = refl
shown_number errors.SeekError = refl
shown_number errors.CommentTooBig = refl
shown_number errors.DiskFull = refl
shown_number errors.DeleteProtected = refl
shown_number errors.WriteProtected = refl
shown_number errors.ReadProtected = refl
shown_number errors.NotADosDisk = refl
shown_number errors.NoMoreEntries = refl

pub returns : goal.returns
returns c =
    let error = c.args.self.now.refused.error in
    let front = c.in_ok-front.ensures.ok
    ∙ ap (λ (n : ℤ). codes "refused " ++ (signed_decimal (to_z w32 (of_z w32 n)) ++ 32 ∷ [])) c.number-number.ensures
    ∙ ap (λ (l : List ℕ). codes "refused " ++ (l ++ 32 ∷ [])) (shown_number error) in
    simp (
      c.in_ok-push.ensures.items,
      c.in_ok-push_plain.ensures,
      c.into_bytes-line.ensures.value,
      c.as_str-path.ensures.value,
      c.if-json.false,
      front,
      append_assoc,
    )
