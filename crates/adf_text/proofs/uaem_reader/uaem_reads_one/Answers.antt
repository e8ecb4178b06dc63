use Rattle.adf_text.proofs.ReadsLemmas.{reads-same, fault-none}
use Rattle.adf_text.proofs.uaem_reader.uaem_reads_one.Goals as goal

pub returns-clause-one : goal.returns-clause-one
returns-clause-one c = λ file noted other is is_other. reads-same file noted other is.date is_other.date

pub returns-clause-none : goal.returns-clause-none
returns-clause-none c = fault-none
