use Rattle.std.proofs.Common.{◌≡◌, true}
use Rattle.ados_salvage.specs.Marks.{mark_at}
use Rattle.ados_salvage.proofs.Mending.{ArePutBelow}
use Rattle.ados_salvage.proofs.mended.with_right_fields.Given as goal

-- the marked headers before this block are put right
abbrev pub invariant-loop-block : goal.invariant-loop-block
invariant-loop-block l = ArePutBelow (λ block. mark_at l.marks block ≡ true) l.fn.image l.block l.image
