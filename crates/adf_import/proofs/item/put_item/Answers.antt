use Rattle.adf_import.specs.Put.PutsInTurn.{a_file, none}
use Rattle.adf_import.proofs.Advancing.{ready_kept}
use Rattle.adf_import.proofs.Putting.{is_put}
use Rattle.adf_import.proofs.item.put_item.Goals as goal

pub returns-in_ok-push-in-Ok-clause-advances : goal.returns-in_ok-push-in-Ok-clause-advances
returns-in_ok-push-in-Ok-clause-advances c =
    let kept = c.in-Ok.ensures.keys in
    record {
      keeps = kept;
      progress = c.in_ok-push-in-Ok.ensures c.put_file.new.volume.image (ready_kept c.args.volume.now.image c.put_file.new.volume.image c.args.item.now.dir c.args.progress.now kept c.requires);
    }

pub returns-in_ok-push-in-Ok-clause-puts : goal.returns-in_ok-push-in-Ok-clause-puts
returns-in_ok-push-in-Ok-clause-puts c =
    a_file c.args.item.now.dir c.args.item.now.name none
    (is_put c.args.how.moment c.args.item.now.dir c.args.item.now.name c.args.how.force c.noted_file-file.result c.in-Ok.key c.args.volume.now c.put_file.new.volume c.in-Ok.ensures.put c.in-Ok.ensures.goes)
