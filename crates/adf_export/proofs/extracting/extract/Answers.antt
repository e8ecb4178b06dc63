use Rattle.adf_export.proofs.Common.{Bor, ℕ, List, map, subst, IsExtractFault}
use Rattle.adf_export.proofs.Leading.{extract_fault, text_of}
use Rattle.adf_export.proofs.extracting.extract.Goals as goal

pub returns-in-Err-clause-fault : goal.returns-in-Err-clause-fault
returns-in-Err-clause-fault g c = λ t s.
    subst (λ (words : List (Bor (List ℕ))). IsExtractFault t (map text_of words) c.in-Err.fault) c.deref.ensures.value
    (extract_fault t (map text_of c.deref.result.now) c.in-Err.fault (c.in-Err.ensures.fault t s))
