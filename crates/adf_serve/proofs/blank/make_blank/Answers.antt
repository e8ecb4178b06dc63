use Rattle.std.proofs.Common.{sym, subst}
use Rattle.std.proofs.KnownBytes.{Keeps-refl}
use Rattle.adf_serve.specs.Changed.{IsBlankOf}
use Rattle.adf_serve.specs.NewImages.Made.{ABlank}
use Rattle.adf_serve.proofs.Printing.{blank_unmade, not_put, put_file, put_output, size_unread, unread_unmade}
use Rattle.adf_serve.proofs.blank.make_blank.Goals as goal

pub returns-in_err-moment : goal.returns-in_err-moment
returns-in_err-moment g c =
    not_put (ABlank c.args.new) _ _ c.in_err-moment.field-0.0 _ (unread_unmade (ABlank c.args.new) _ (size_unread _ c.in_err-moment.ensures.no_image)) c.from_residual.ensures.1

pub returns-in_err-volume : goal.returns-in_err-volume
returns-in_err-volume g c =
    not_put (ABlank c.args.new) _ _ c.in_err-volume.field-0.0 _ (blank_unmade (ABlank c.args.new) _ _ _ _ c.in_err-volume.ensures) c.from_residual-in_err-volume.ensures.1

pub returns-then-is_output : goal.returns-then-is_output
returns-then-is_output g c =
    let blank = c.in_ok-volume.ensures in
    let is : IsBlankOf c.args.new c.in_ok-volume.volume.image = record { name = blank.0; named = blank.1; stamp = c.in_ok-moment.moment; stamped = c.in_ok-moment.ensures.stamp; blank = blank.2 } in
    put_output (ABlank c.args.new) _ _ _ c.put_image.ensures.fault c.args.file.now c.is_output.result c.is_output.ensures c.if-is_output.true
    (c.put_image.ensures.written (ABlank c.args.new) (subst (IsBlankOf c.args.new) (sym c.image.ensures.same) is))

pub returns : goal.returns
returns g c = put_file (ABlank c.args.new) _ _ _ c.write_held.ensures.no_refusal c.args.file.now c.is_output.result c.is_output.ensures c.if-is_output.false (Keeps-refl _)
