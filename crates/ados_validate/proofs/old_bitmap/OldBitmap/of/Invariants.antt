use Rattle.ados_validate.proofs.Common.{◌≡◌, map, range_with_len, page_long}
use Rattle.ados_validate.proofs.old_bitmap.OldBitmap.of.Given as goal

abbrev pub invariant-loop-k : goal.invariant-loop-k
invariant-loop-k l = l.longs.items ≡ map (page_long l.image) (range_with_len 0 l.k)
