use Rattle.ados_validate.proofs.Common.{◌≡◌, ◌*◌, ◌≤◌, total}
use Rattle.ados_validate.proofs.Counted.{bits_at}
use Rattle.ados_validate.proofs.cautions.changed_bits.Given as goal

abbrev pub invariant-loop-i : goal.invariant-loop-i
invariant-loop-i l = record {
  counted : l.bits ≡ total (bits_at l.old l.new l.page) l.i;
  bound : l.bits ≤ 32 * l.i;
}
