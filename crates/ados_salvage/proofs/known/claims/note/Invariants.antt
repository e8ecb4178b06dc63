use Rattle.std.proofs.Common.{◌≡◌, ℕ, ◌<◌, length, take}
use Rattle.ados_salvage.specs.steps.Claims.{IsNoted}
use Rattle.ados_salvage.proofs.known.claims.note.Given as goal

abbrev pub invariant-loop-block : goal.invariant-loop-block
invariant-loop-block l = record {
  size : length l.claims ≡ length l.initial.claims;
  noted : (block : ℕ) → block < length l.initial.claims → IsNoted l.file (take l.block-index l.blocks) l.initial.claims l.claims block;
}
