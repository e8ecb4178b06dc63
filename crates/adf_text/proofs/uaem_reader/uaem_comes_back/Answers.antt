use Rattle.adf_text.proofs.ReadsLemmas.{comes-back}
use Rattle.adf_text.proofs.uaem_reader.uaem_comes_back.Goals as goal

pub returns : goal.returns
returns c = comes-back
