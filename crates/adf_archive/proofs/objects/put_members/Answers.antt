use Rattle.std.proofs.Common.{append_assoc, ◌∙◌}
use Rattle.std.proofs.lemmas.Result.{on_ok_weaker}
use Rattle.adf_archive.proofs.objects.put_members.Goals as goal

pub returns-clause-tokens : goal.returns-clause-tokens
returns-clause-tokens c =
    on_ok_weaker c.put_contents.result
    (λ last. last ∙ simp (
      c.in_ok-put_number.ensures.tokens,
      c.in_ok-put_kind.ensures.tokens,
      c.in_ok-put_flag-2.ensures.tokens,
      c.in_ok-put_flag.ensures.tokens,
      append_assoc,
    ))
    c.put_contents.ensures.tokens
