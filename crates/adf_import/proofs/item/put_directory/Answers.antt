use Rattle.adf_import.proofs.Common.{IsReady}
use Rattle.adf_import.specs.Put.PutsInTurn.{a_directory, none}
use Rattle.adf_import.proofs.Advancing.{progress_kept}
use Rattle.adf_import.proofs.item.put_directory.Goals as goal

pub returns-then-entered-clause-advances : goal.returns-then-entered-clause-advances
returns-then-entered-clause-advances c =
    let made = c.in-Ok.ensures in
    let ready : IsReady c.enter_directory.new.volume.image c.in-Ok.entered.key c.args.progress.now = record { dir = made.directory; progress = progress_kept c.args.volume.now.image c.enter_directory.new.volume.image c.args.progress.now made.keeps c.requires.progress } in
    record { keeps = made.keeps; progress = c.in_ok-push_made.ensures c.enter_directory.new.volume.image (made.entry c.if-entered.true) ready }

pub returns-clause-advances : goal.returns-clause-advances
returns-clause-advances c =
    let there = c.in-Ok.ensures in
    let ready : IsReady c.enter_directory.new.volume.image c.in-Ok.entered.key c.args.progress.now = record { dir = there.directory; progress = progress_kept c.args.volume.now.image c.enter_directory.new.volume.image c.args.progress.now there.keeps c.requires.progress } in
    record { keeps = there.keeps; progress = c.in_ok-push.ensures c.enter_directory.new.volume.image ready }

pub returns-then-entered-clause-puts : goal.returns-then-entered-clause-puts
returns-then-entered-clause-puts c = a_directory c.args.item.now.dir c.args.item.now.name c.in-Ok.entered none c.in-Ok.ensures.entered

pub returns-clause-puts : goal.returns-clause-puts
returns-clause-puts c = a_directory c.args.item.now.dir c.args.item.now.name c.in-Ok.entered none c.in-Ok.ensures.entered
