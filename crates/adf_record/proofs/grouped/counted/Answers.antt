use Rattle.adf_record.proofs.Common.{append_assoc}
use Rattle.adf_record.proofs.grouped.counted.Goals as goal

pub returns : goal.returns
returns c = simp (c.in_ok-text.ensures.ok, c.as_str.ensures.value, c.in_ok-number.ensures, c.word_for-word.ensures, append_assoc)
