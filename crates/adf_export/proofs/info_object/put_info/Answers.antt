use Rattle.adf_export.proofs.Common.{◌∙◌}
use Rattle.std.proofs.Common.{append_assoc}
use Rattle.std.proofs.lemmas.Result.{on_ok_weaker}
use Rattle.adf_export.proofs.info_object.put_info.Goals as goal

pub returns-clause-tokens : goal.returns-clause-tokens
returns-clause-tokens c =
    on_ok_weaker c.end_object.result
    (λ last. last ∙ simp (c.in_ok-put_flag.ensures.tokens, c.in_ok-put_body.ensures.tokens, c.in_ok-begin_object.ensures.ok, append_assoc))
    c.end_object.ensures.ok
