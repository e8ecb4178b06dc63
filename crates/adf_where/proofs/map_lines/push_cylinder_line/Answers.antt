use Rattle.adf_where.proofs.Common.{ℕ, ◌+◌, ◌*◌, ap}
use Rattle.std.specs.Prelude.{slice_index}
use Rattle.adf_where.proofs.Mapping.{column_more}
use Rattle.adf_where.proofs.map_lines.push_cylinder_line.Goals as goal

pub loop-cylinder-preserved : goal.loop-cylinder-preserved
loop-cylinder-preserved c =
    column_more (λ (cylinder : ℕ). slice_index c.args.letters.now (c.args.size * cylinder + c.args.at)) c.args.text.now.items c.loop-cylinder.text.items c.push.new.self.items c.loop-cylinder.cylinder _
    c.loop-cylinder.invariant c.in_ok-push.ensures.items (ap (λ (k : ℕ). slice_index c.args.letters.now k) c.block_at.ensures.value)
