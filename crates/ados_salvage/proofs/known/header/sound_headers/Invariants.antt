use Rattle.std.proofs.Common.{◌≡◌, ◌<◌, ◌↔◌, ℕ, IsTrue, length}
use Rattle.ados_salvage.specs.Sound.{IsSoundHeader}
use Rattle.ados_salvage.specs.Marks.{mark_at}
use Rattle.ados_salvage.proofs.known.header.sound_headers.Given as goal

abbrev pub invariant-loop-block : goal.invariant-loop-block
invariant-loop-block l = record {
  size : length l.sound.items ≡ l.block;
  decided : (block : ℕ) → block < l.block → IsTrue (mark_at l.sound.items block) ↔ IsSoundHeader l.image block;
}
