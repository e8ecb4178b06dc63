use Rattle.std.proofs.Common.{Ok}
use Rattle.std.proofs.KnownBytes.{Keeps-refl}
use Rattle.adf_serve.specs.NewImages.Made.{ABootBlock}
use Rattle.adf_serve.proofs.Printing.{made_put, not_put, put_file, put_output, size_unread, unread_unmade}
use Rattle.adf_serve.proofs.boot.save_boot.Goals as goal

pub returns-in_err-image : goal.returns-in_err-image
returns-in_err-image g c = not_put ABootBlock _ _ c.in_err-image.field-0.0 _ (unread_unmade ABootBlock _ (size_unread _ c.in_err-image.ensures)) c.from_residual.ensures.1

pub returns-then-is_output : goal.returns-then-is_output
returns-then-is_output g c =
    put_output ABootBlock _ _ _ c.tell.ensures.no_refusal c.args.file.now c.is_output.result c.is_output.ensures c.if-is_output.true
    (made_put ABootBlock _ _ c.boot_bytes.result.now c.tell.result c.boot_bytes.ensures.length c.tell.ensures.ok c.tell.ensures.front c.tell.ensures.no_refusal)

pub returns-in_default : goal.returns-in_default
returns-in_default g c = put_file ABootBlock _ _ (Ok tt) tt c.args.file.now c.is_output.result c.is_output.ensures c.if-is_output.false (Keeps-refl _)
