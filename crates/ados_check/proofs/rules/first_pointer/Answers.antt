use Rattle.ados_check.proofs.Common.{◌∙◌, sym, arith}
use Rattle.ados_check.proofs.Pointers.{first_is}
use Rattle.ados_check.proofs.rules.first_pointer.Goals as goal

pub returns : goal.returns
returns c = c.long.ensures ∙ sym (first_is c.args.source.now.bytes c.args.block (omega (arith, c.long-count.ensures, c.if-count-eq0.false)) (omega (arith, c.long-count.ensures, c.if-count-gt-TABLE_LONGS.false)))
