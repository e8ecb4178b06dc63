use Rattle.adf_serve.specs.NewImages.Made.{ABundled}
use Rattle.adf_serve.proofs.Printing.{bundle_unmade, made_not_put, not_put, put_work, refused_unread, size_unread, unread_unmade}
use Rattle.adf_serve.proofs.bundle.put_bundle.Goals as goal

pub returns-in_err-work : goal.returns-in_err-work
returns-in_err-work g c = not_put ABundled _ _ c.in_err-work.field-0.0 _ (unread_unmade ABundled _ (size_unread _ c.in_err-work.ensures.fault)) c.from_residual.ensures.1

pub returns-in_err-old : goal.returns-in_err-old
returns-in_err-old g c = not_put ABundled _ _ c.in_err-old.field-0.0 _ (unread_unmade ABundled _ (refused_unread _ _ c.in_err-old.ensures)) c.from_residual-in_err-old.ensures.1

pub returns-in-Err : goal.returns-in-Err
returns-in-Err g c = made_not_put ABundled _ _ _ (bundle_unmade _ c.of_bundle.ensures)

pub returns : goal.returns
returns g c = put_work ABundled _ _ c.put.result c.put.ensures.fault _ _ c.in_ok-work.work.to_output tt c.in_ok-work.ensures.output c.put.ensures.output c.put.ensures.file
