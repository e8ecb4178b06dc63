use Rattle.adf_record.proofs.Common.{append_assoc, le-ltb}
use Rattle.adf_record.proofs.grouped.grouped_text.Goals as goal

pub returns : goal.returns
returns c = simp (c.in_ok-text.ensures.ok, le-ltb c.args.n 1000 c.if-n-lt1000.false, append_assoc)
