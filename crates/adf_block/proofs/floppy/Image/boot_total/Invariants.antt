use Rattle.adf_block.proofs.Common.{◌≡◌, ◌≤◌, ◌*◌, ◌^◌, total, boot_long}
use Rattle.adf_block.proofs.floppy.Image.boot_total.Given as goal

abbrev pub invariant-loop-k : goal.invariant-loop-k
invariant-loop-k l = record {
  sum : l.total ≡ total (boot_long l.self) l.k;
  bound : l.total ≤ l.k * 2 ^ 32;
}
