use Rattle.ados_validate.proofs.Common.{◌≡◌, ◌%◌, ◌^◌, total, long, page_block}
use Rattle.ados_validate.proofs.old_bitmap.OldBitmap.sum.Given as goal

abbrev pub invariant-loop-i : goal.invariant-loop-i
invariant-loop-i l = l.sum ≡ total (long l.self (page_block l.self l.p)) l.i % 2 ^ 32
