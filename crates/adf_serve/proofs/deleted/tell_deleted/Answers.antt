use Rattle.std.proofs.Common.{ℕ, List, subst, sym}
use Rattle.adf_rescue.specs.Undelete.{IsUndeleteFault}
use Rattle.adf_serve.specs.Texts.{AreDeletedLines}
use Rattle.adf_serve.proofs.Deleting.{deleted_told, lines_told}
use Rattle.adf_serve.proofs.deleted.tell_deleted.Goals as goal

pub returns-in-Err-NoTrustedBitmap : goal.returns-in-Err-NoTrustedBitmap
returns-in-Err-NoTrustedBitmap g c =
    c.tell_untrusted.ensures c.args.image (subst (IsUndeleteFault c.args.image) c.in-Err-NoTrustedBitmap.field-0-is c.in-Err-NoTrustedBitmap.ensures.fault)

pub returns : goal.returns
returns g c =
    lines_told c.args.job.now c.args.image c.deref.result.now _ _ c.tell.result
    (subst (λ (text : List ℕ). AreDeletedLines c.args.job.now c.args.image text) (sym c.deref.ensures.value) (deleted_told c.args.image c.args.job.now c.in-Ok.done c.in-Ok.ensures.done))
    c.tell.ensures.ok c.tell.ensures.front c.tell.ensures.output
