use Rattle.adf_record.proofs.Common.{append_assoc}
use Rattle.std.proofs.lemmas.Bool.{ne_eqb}
use Rattle.adf_record.proofs.lost_line.lost_line.Goals as goal

pub returns : goal.returns
returns c = simp (c.in_ok-line.ensures.ok, c.as_str.ensures.value, c.in_ok-blocks.ensures, c.as_str-2.ensures.value, c.in_ok-headers.ensures, ne_eqb c.args.lost.blocks 0 c.if-lost-eq0.false, append_assoc)
