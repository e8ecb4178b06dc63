use Rattle.ados_map.proofs.Common.{◌<◌, ◌+◌, ◌*◌, ℕ, long, OnlyBlock, IsUnnamedBits}
use Rattle.ados_map.proofs.rebuilding.fill_page.Given as goal

abbrev pub invariant-loop-j : goal.invariant-loop-j
invariant-loop-j l = record {
  longs : (i : ℕ) → i < l.j → IsUnnamedBits l.named (127 * l.p + i) (long l.image l.page (1 + i));
  rest : OnlyBlock l.page l.initial.image l.image;
}
