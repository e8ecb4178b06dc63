use Rattle.std.proofs.Common.{append_assoc, ◌∙◌}
use Rattle.std.proofs.lemmas.Result.{on_ok_weaker}
use Rattle.adf_archive.proofs.objects.put_place.Goals as goal

pub returns-clause-tokens : goal.returns-clause-tokens
returns-clause-tokens c =
    on_ok_weaker c.put_text.result
    (λ last. last ∙ simp (
      c.in_ok-put_number-3.ensures.tokens,
      c.in_ok-put_number-2.ensures.tokens,
      c.in_ok-put_number.ensures.tokens,
      c.from.ensures,
      c.header_of.ensures,
      c.data_place.ensures,
      c.as_deref.ensures.value,
      append_assoc,
    ))
    c.put_text.ensures.tokens
