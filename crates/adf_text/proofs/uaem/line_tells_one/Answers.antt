use Rattle.adf_text.proofs.UaemLemmas.{line_tells_one}
use Rattle.adf_text.proofs.uaem.line_tells_one.Goals as goal

pub returns : goal.returns
returns c = line_tells_one
