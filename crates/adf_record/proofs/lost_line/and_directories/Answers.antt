use Rattle.adf_record.proofs.Common.{append_assoc}
use Rattle.std.proofs.lemmas.Bool.{ne_eqb}
use Rattle.adf_record.proofs.lost_line.and_directories.Goals as goal

pub returns : goal.returns
returns c = simp (c.in_ok-text.ensures.ok, c.as_str.ensures.value, c.in_ok-words.ensures, ne_eqb c.args.n 0 c.if-n-eq0.false, append_assoc)
