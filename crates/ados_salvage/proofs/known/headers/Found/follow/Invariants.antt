use Rattle.std.proofs.Common.{ℕ, ◌<◌}
use Rattle.ados_salvage.specs.steps.Heading.{FindsMore, IsSought}
use Rattle.ados_salvage.proofs.known.headers.Found.follow.Given as goal

abbrev pub invariant-loop-at : goal.invariant-loop-at
invariant-loop-at l = record {
  more : FindsMore l.left_out l.image l.initial.self l.self;
  sought : (at : ℕ) → at < l.at → IsSought l.left_out l.image l.self.marks.items l.block at;
}
