use Rattle.std.specs.Prelude.{slice_index}
use Rattle.std.specs.List.{range_with_len}
use Rattle.adf_where.proofs.Common.{◌≡◌, ◌+◌, ◌*◌, ◌++◌, map}
use Rattle.adf_where.proofs.map_lines.push_cylinder_line.Given as goal

-- the letters of the cylinders before this one
abbrev pub invariant-loop-cylinder : goal.invariant-loop-cylinder
invariant-loop-cylinder l =
    l.text.items ≡ l.fn.text.items ++ map (λ cylinder. slice_index l.letters (l.size * cylinder + l.at)) (range_with_len 0 l.cylinder)
