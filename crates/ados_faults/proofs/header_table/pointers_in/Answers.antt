use Rattle.ados_faults.proofs.Common.{sym, arith, ◌∙◌}
use Rattle.ados_faults.proofs.ByHeaders.{pointers_few, pointers_none}
use Rattle.ados_faults.proofs.header_table.pointers_in.Goals as goal

pub returns-then-count-gt-TABLE_LONGS-clause-count : goal.returns-then-count-gt-TABLE_LONGS-clause-count
returns-then-count-gt-TABLE_LONGS-clause-count c = sym (pointers_none c.args.image.now c.args.header (omega (arith, c.long-count.ensures)))

pub returns-clause-count : goal.returns-clause-count
returns-clause-count c = c.long-count.ensures ∙ sym (pointers_few c.args.image.now c.args.header (omega (arith, c.long-count.ensures)))
