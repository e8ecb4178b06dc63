use Rattle.std.proofs.Common.{◌≡◌, ◌++◌, take}
use Rattle.adf_archive.proofs.Common.{flat_map, suspect_line}
use Rattle.adf_archive.proofs.lines.push_suspects.Given as goal

-- the lines of the blocks before this one
abbrev pub invariant-loop-suspect : goal.invariant-loop-suspect
invariant-loop-suspect l = l.text.items ≡ l.fn.text.items ++ flat_map (suspect_line l.front) (take l.suspect-index l.suspects)
