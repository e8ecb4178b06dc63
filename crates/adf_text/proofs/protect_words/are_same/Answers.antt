use Rattle.adf_text.proofs.Common.{one_answer, bytes_eq-Decides}
use Rattle.adf_text.proofs.protect_words.are_same.Goals as goal

pub returns : goal.returns
returns c = one_answer c.eq_ignore_ascii_case.result _ c.eq_ignore_ascii_case.ensures.test (bytes_eq-Decides _ _)
