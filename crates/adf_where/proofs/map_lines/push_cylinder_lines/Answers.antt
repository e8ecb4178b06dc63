use Rattle.adf_where.specs.BlockMap.{cylinder_line}
use Rattle.adf_where.proofs.Mapping.{line_more}
use Rattle.adf_where.proofs.map_lines.push_cylinder_lines.Goals as goal

pub loop-at-preserved : goal.loop-at-preserved
loop-at-preserved c =
    line_more (cylinder_line c.args.letters.now c.args.size) c.args.text.now.items c.loop-at.text.items c.push_cylinder_line.new.text.items c.loop-at.at c.loop-at.invariant
    c.in_ok-push_cylinder_line.ensures
