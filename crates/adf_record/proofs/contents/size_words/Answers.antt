use Rattle.adf_record.proofs.Common.{append_assoc}
use Rattle.adf_record.proofs.contents.size_words.Goals as goal

pub returns : goal.returns
returns c = simp (c.in_ok-words.ensures.ok, c.density_words-density.ensures, c.as_str.ensures.value, c.in_ok-number.ensures, c.from.ensures, append_assoc)
