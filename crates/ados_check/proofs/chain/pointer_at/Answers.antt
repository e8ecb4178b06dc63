use Rattle.ados_check.proofs.Common.{◌-◌, ◌%◌, arith}
use Rattle.ados_check.proofs.chain.pointer_at.Goals as goal

pub long-requires-clause-told : goal.long-requires-clause-told
long-requires-clause-told c = c.requires.told (omega (arith, c.if-position-count.false)) (77 - c.args.position % 72)
