use Rattle.adf_import.proofs.Reaching.{made_reached, missing_made, missing_refused}
use Rattle.adf_import.proofs.ways.make_front.Goals as goal

pub returns-in-Ok-clause-made : goal.returns-in-Ok-clause-made
returns-in-Ok-clause-made c =
    missing_made c.args.moment c.args.path.now c.args.at c.in-Missing.dir c.in-Missing.name c.args.volume.now c.look_up.new.volume c.make_directory.new.volume c.in-Missing.ensures.found c.look_up.ensures.same
    c.in-Ok.key c.in-Ok.ensures.made c.in-Ok.ensures.unused

pub returns-in-Ok-clause-next : goal.returns-in-Ok-clause-next
returns-in-Ok-clause-next c =
    made_reached c.args.moment c.args.path.now c.args.at c.in-Missing.dir c.in-Missing.name c.args.volume.now c.look_up.new.volume c.make_directory.new.volume c.in-Missing.ensures.found c.look_up.ensures.same
    c.in-Ok.key c.in-Ok.ensures.made c.in-Ok.ensures.unused c.image.ensures.stands

pub returns-in-Err-clause-made : goal.returns-in-Err-clause-made
returns-in-Err-clause-made c =
    missing_refused c.args.moment c.args.path.now c.args.at c.in-Missing.dir c.in-Missing.name c.args.volume.now c.look_up.new.volume c.make_directory.new.volume c.in-Missing.ensures.found c.look_up.ensures.same
    c.in-Err.error c.in-Err.ensures.made
