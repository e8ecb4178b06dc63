use Rattle.adf_import.proofs.Common.{IsReady}
use Rattle.adf_import.proofs.Advancing.{progress_kept, same_advances}
use Rattle.adf_import.proofs.saved_fill.Filling.put_as_directory.Goals as goal

pub returns-then-entered : goal.returns-then-entered
returns-then-entered c =
    let made = c.in-Ok.ensures in
    let ready : IsReady c.enter_directory.new.volume.image c.in-Ok.entered.key c.args.progress.now = record { dir = made.directory; progress = progress_kept c.args.volume.now.image c.enter_directory.new.volume.image c.args.progress.now made.keeps c.requires.progress } in
    record { keeps = made.keeps; progress = c.in_ok-push_made-in-Ok.ensures c.enter_directory.new.volume.image (made.entry c.if-entered.true) ready }

pub returns-in_ok-push-in-Ok : goal.returns-in_ok-push-in-Ok
returns-in_ok-push-in-Ok c =
    let there = c.in-Ok.ensures in
    let ready : IsReady c.enter_directory.new.volume.image c.in-Ok.entered.key c.args.progress.now = record { dir = there.directory; progress = progress_kept c.args.volume.now.image c.enter_directory.new.volume.image c.args.progress.now there.keeps c.requires.progress } in
    record { keeps = there.keeps; progress = c.in_ok-push-in-Ok.ensures c.enter_directory.new.volume.image ready }

pub returns-in_ok-push-in-Err : goal.returns-in_ok-push-in-Err
returns-in_ok-push-in-Err c = same_advances c.args.volume.now c.enter_directory.new.volume c.args.dir c.args.progress.now _ c.in-Err.ensures.entered.0.0 c.requires c.in_ok-push-in-Err.ensures
