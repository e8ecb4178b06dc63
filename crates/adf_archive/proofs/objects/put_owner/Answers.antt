use Rattle.std.proofs.Common.{append_assoc, ◌∙◌}
use Rattle.std.proofs.lemmas.Result.{on_ok_weaker}
use Rattle.adf_archive.proofs.objects.put_owner.Goals as goal

pub returns-clause-tokens : goal.returns-clause-tokens
returns-clause-tokens c =
    on_ok_weaker c.put_number.result
    (λ last. last ∙ simp (
      c.in_ok-put_text.ensures.tokens,
      c.owner_word.ensures,
      c.position_of.ensures,
      append_assoc,
    ))
    c.put_number.ensures.tokens
