use Rattle.adf_record.proofs.Common.{append_assoc}
use Rattle.std.proofs.lemmas.Bool.{ne_eqb}
use Rattle.adf_record.proofs.lost_line.lost_headers.Goals as goal

pub returns : goal.returns
returns c = simp (c.in_ok-text.ensures.ok, c.as_str.ensures.value, c.in_ok-files.ensures, c.as_str-2.ensures.value, c.in_ok-more.ensures, ne_eqb c.args.files 0 c.if-files-eq0.false, append_assoc)
