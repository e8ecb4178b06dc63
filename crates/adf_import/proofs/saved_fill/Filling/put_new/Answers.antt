use Rattle.adf_import.proofs.Advancing.{ready_kept, same_advances}
use Rattle.adf_import.proofs.saved_fill.Filling.put_new.Goals as goal

pub returns-in_ok-push-in-Ok : goal.returns-in_ok-push-in-Ok
returns-in_ok-push-in-Ok c =
    let kept = c.in-Ok.ensures.keys in
    record {
      keeps = kept;
      progress = c.in_ok-push-in-Ok.ensures c.put_file.new.volume.image (ready_kept c.args.volume.now.image c.put_file.new.volume.image c.args.dir c.args.progress.now kept c.requires);
    }

pub returns-in_ok-push-in-Err : goal.returns-in_ok-push-in-Err
returns-in_ok-push-in-Err c = same_advances c.args.volume.now c.put_file.new.volume c.args.dir c.args.progress.now _ c.in-Err.ensures.put.0 c.requires c.in_ok-push-in-Err.ensures
