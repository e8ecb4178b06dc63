use Rattle.ados_salvage.proofs.KnownCommon.{ℕ, ◌<◌, IsToldHeader, AreFound, IsFound}
use Rattle.ados_salvage.proofs.known.headers.all_sound.Given as goal

abbrev pub invariant-loop-block : goal.invariant-loop-block
invariant-loop-block l = record {
  found : AreFound l.left_out l.image l.found;
  sound : (block : ℕ) → block < l.block → IsToldHeader l.left_out l.image block → IsFound l.found.marks.items block;
}
