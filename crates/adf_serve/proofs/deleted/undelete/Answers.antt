use Rattle.adf_serve.specs.Deleted.{IsDeletedText, IsUndeleteEnd}
use Rattle.adf_serve.specs.Rescues.{IsSomeSize}
use Rattle.adf_serve.proofs.Deleting.{no_image_ends}
use Rattle.adf_serve.proofs.Printing.{reports_no_image}
use Rattle.adf_serve.proofs.deleted.undelete.Goals as goal

pub returns-in_err-image : goal.returns-in_err-image
returns-in_err-image g c =
    reports_no_image (IsDeletedText c.args.job.now) IsSomeSize IsUndeleteEnd _ c.in_err-image.field-0.0 _ (λ bytes refusal size. (bytes, size)) no_image_ends c.in_err-image.ensures
    c.from_residual.ensures.1
