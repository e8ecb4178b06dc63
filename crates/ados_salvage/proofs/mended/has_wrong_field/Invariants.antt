use Rattle.std.proofs.Common.{◌≡◌, ◌<◌, ℕ, true}
use Rattle.ados_salvage.specs.Marks.{mark_at}
use Rattle.ados_salvage.specs.PutRight.{IsPutRight}
use Rattle.ados_salvage.proofs.mended.has_wrong_field.Given as goal

-- no marked block before this one has such a field
abbrev pub invariant-loop-block : goal.invariant-loop-block
invariant-loop-block l = (block : ℕ) → block < l.block → (at due : ℕ) → mark_at l.marks block ≡ true → ¬ IsPutRight l.image block at due
