use Rattle.adf_serve.specs.NewImages.Made.{ABooted}
use Rattle.adf_serve.proofs.Printing.{not_put, plain_unmade, put_work, size_unread, unread_unmade}
use Rattle.adf_serve.proofs.boot.change_boot.Goals as goal

pub returns-in_err-work : goal.returns-in_err-work
returns-in_err-work g c = not_put (ABooted c.args.block) _ _ c.in_err-work.field-0.0 _ (unread_unmade (ABooted c.args.block) _ (size_unread _ c.in_err-work.ensures.fault)) c.from_residual.ensures.1

pub returns-in_err-accept_copy : goal.returns-in_err-accept_copy
returns-in_err-accept_copy g c =
    not_put (ABooted c.args.block) _ _ c.in_err-accept_copy.field-0.0 _ (unread_unmade (ABooted c.args.block) _ c.in_err-accept_copy.ensures.fault) c.from_residual-in_err-accept_copy.ensures.1

pub returns-in_err-put_boot : goal.returns-in_err-put_boot
returns-in_err-put_boot g c =
    not_put (ABooted c.args.block) _ _ c.in_err-put_boot.field-0.0 _ (plain_unmade (ABooted c.args.block) _ c.in_err-put_boot.ensures.fault) c.from_residual-in_err-put_boot.ensures.1

pub returns : goal.returns
returns g c =
    put_work (ABooted c.args.block) _ _ c.put.result c.put.ensures.fault _ _ c.in_ok-work.work.to_output (c.in_ok-work.image, c.in_ok-accept_copy.ensures.accepted, c.in_ok-put_boot.ensures.installed)
    c.in_ok-work.ensures.output c.put.ensures.output c.put.ensures.file
