use Rattle.ados_salvage.proofs.KnownCommon.{◌≡◌, length, take, block_count, AreMarked}
use Rattle.ados_salvage.proofs.known.left_out.LeftOut.of.Given as goal

-- the headers before this one are marked
abbrev pub invariant-loop-header : goal.invariant-loop-header
invariant-loop-header l = record {
  size : length l.marks.items ≡ block_count l.image;
  marked : AreMarked l.marks.items (take l.header-index l.fn.headers.items);
}
