use Rattle.adf_import.proofs.MissingAbove.{last_made, way_made}
use Rattle.adf_import.proofs.ways.make_way.Goals as goal

pub returns-in-Err : goal.returns-in-Err
returns-in-Err c =
    way_made c.args.moment c.args.path.now c.args.volume.now c.make_fronts.new.volume c.make_one.new.volume c.make_one.result c.in_ok-make_fronts.ensures
    (last_made c.args.moment c.args.path.now c.make_fronts.new.volume c.directory_at.new.volume c.make_one.new.volume c.in-Err.field-0 c.make_one.result c.directory_at.ensures.same c.in-Err.ensures.found c.make_one.ensures)
