use Rattle.std.specs.List.{range_with_len}
use Rattle.adf_where.proofs.Common.{AllZip}
use Rattle.adf_where.specs.FaultyMap.{HasLetter}
use Rattle.adf_where.proofs.faulty_map.letters_of.Given as goal

-- the letters of the blocks before this one
abbrev pub invariant-loop-block : goal.invariant-loop-block
invariant-loop-block l = AllZip (HasLetter l.image l.unread) (range_with_len 0 l.block) l.letters.items
