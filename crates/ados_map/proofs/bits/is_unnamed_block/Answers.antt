use Rattle.ados_map.proofs.Common.{not, true, false, ap, sym, ◌∙◌, le-ltb}
use Rattle.std.proofs.lemmas.List.{get_or_past, get_or_default}
use Rattle.ados_map.specs.Bits.{is_unnamed}
use Rattle.ados_map.proofs.bits.is_unnamed_block.Goals as goal

pub returns-then-block-named : goal.returns-then-block-named
unfolding is_unnamed
returns-then-block-named c = ap not (get_or_default c.args.named.now c.args.block false true c.if-block-named.true)

pub returns-else-block-named : goal.returns-else-block-named
unfolding is_unnamed
returns-else-block-named c = le-ltb _ _ c.if-block-named.false ∙ sym (ap not (get_or_past c.args.named.now c.args.block true c.if-block-named.false))
