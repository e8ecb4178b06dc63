use Rattle.adf_block.proofs.Common.{◌≡◌, ◌%◌, ◌^◌, total, long}
use Rattle.adf_block.proofs.floppy.Image.sum.Given as goal

abbrev pub invariant-loop-i : goal.invariant-loop-i
invariant-loop-i l = l.sum ≡ total (long l.self l.b) l.i % 2 ^ 32
