use Rattle.adf_export.proofs.Common.{append_assoc, refl, string_bytes}
use Rattle.adf_export.proofs.lines.push_line.Goals as goal

pub returns : goal.returns
returns c = (
  _,
  (string_bytes c.in_ok-date.date, c.in_ok-date.ensures, refl),
  simp (c.in_ok-push-2.ensures.items, c.in_ok-push_names.ensures, c.in_ok-push.ensures.items, c.in_ok-push_spaced-2.ensures, c.as_bytes-2.ensures.value, c.in_ok-push_spaced.ensures, c.letters.ensures, c.in_ok-push_right.ensures, c.as_bytes.ensures.value, c.size_word-size.ensures, append_assoc),
)
