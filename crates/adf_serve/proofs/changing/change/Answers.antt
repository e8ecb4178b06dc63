use Rattle.std.proofs.Common.{Ok, Err, Result, Vec, Global, subst}
use Rattle.adf_host.specs.declared.trees.walk.PassedOver.{PassedOver}
use Rattle.adf_import.specs.declared.fault.InFault.{InFault}
use Rattle.adf_import.specs.Commands.{ChangesVolume, without_answer}
use Rattle.adf_serve.specs.Changed.{Tries}
use Rattle.adf_serve.specs.NewImages.Made.{AChanged}
use Rattle.adf_serve.proofs.Denied.{explained_unmade}
use Rattle.adf_serve.proofs.Printing.{made_not_put, not_put, plain_unmade, put_work, refused_unread, size_unread, unread_unmade}
use Rattle.adf_serve.proofs.changing.change.Goals as goal

pub returns-in_err-refuse_closed_input : goal.returns-in_err-refuse_closed_input
returns-in_err-refuse_closed_input g c =
    not_put (AChanged c.args.job.now) _ _ c.in_err-refuse_closed_input.field-0.0 _ (plain_unmade (AChanged c.args.job.now) _ c.in_err-refuse_closed_input.ensures) c.from_residual.ensures.1

pub returns-in_err-work : goal.returns-in_err-work
returns-in_err-work g c =
    not_put (AChanged c.args.job.now) _ _ c.in_err-work.field-0.0 _ (unread_unmade (AChanged c.args.job.now) _ (size_unread _ c.in_err-work.ensures.fault)) c.from_residual-in_err-work.ensures.1

pub returns-in_err-volume : goal.returns-in_err-volume
returns-in_err-volume g c =
    not_put (AChanged c.args.job.now) _ _ c.in_err-volume.field-0.0 _ (unread_unmade (AChanged c.args.job.now) _ (refused_unread _ _ c.in_err-volume.ensures)) c.from_residual-in_err-volume.ensures.1

pub returns-in_err-moment : goal.returns-in_err-moment
returns-in_err-moment g c =
    not_put (AChanged c.args.job.now) _ _ c.in_err-moment.field-0.0 _ (unread_unmade (AChanged c.args.job.now) _ (size_unread _ c.in_err-moment.ensures.no_image)) c.from_residual-in_err-moment.ensures.1

pub returns-in-Ok : goal.returns-in-Ok
returns-in-Ok g c =
    let made = subst (λ (done : Result (Vec PassedOver Global) InFault). ChangesVolume c.args.job.now.change c.in_ok-moment.moment c.in_ok-volume.volume c.change_volume.new.volume (without_answer done)) c.in-Ok.is c.change_volume.ensures in
    let tries : Tries c.args.job.now c.change_volume.new.volume (Ok tt) = record {
      read = c.in_ok-work.image;
      old = c.in_ok-volume.volume;
      accepted = c.in_ok-volume.ensures;
      stamp = c.in_ok-moment.moment;
      stamped = c.in_ok-moment.ensures.stamp;
      changes = made;
    } in
    put_work (AChanged c.args.job.now) _ _ c.put.result c.put.ensures.fault _ _ c.in_ok-work.work.to_output (c.change_volume.new.volume, tries, c.image.ensures.same) c.in_ok-work.ensures.output c.put.ensures.output c.put.ensures.file

pub returns : goal.returns
returns g c =
    let refused = subst (λ (done : Result (Vec PassedOver Global) InFault). ChangesVolume c.args.job.now.change c.in_ok-moment.moment c.in_ok-volume.volume c.change_volume.new.volume (without_answer done)) c.in-Err.is c.change_volume.ensures in
    let tries : Tries c.args.job.now c.change_volume.new.volume (Err c.in-Err.fault) = record {
      read = c.in_ok-work.image;
      old = c.in_ok-volume.volume;
      accepted = c.in_ok-volume.ensures;
      stamp = c.in_ok-moment.moment;
      stamped = c.in_ok-moment.ensures.stamp;
      changes = refused;
    } in
    made_not_put (AChanged c.args.job.now) _ _ _ (explained_unmade c.args.job.now c.change_volume.new.volume c.in-Err.fault _ tries c.explained.ensures)
