use Rattle.std.proofs.Common.{append_assoc, ◌∙◌}
use Rattle.std.proofs.lemmas.Result.{on_ok_weaker}
use Rattle.adf_rescue.proofs.rescue_object.put_detail.Goals as goal

pub returns-clause-tokens : goal.returns-clause-tokens
returns-clause-tokens c =
    on_ok_weaker c.put_flag.result
    (λ last. last ∙ simp (c.in_ok-put_reason.ensures.tokens, c.in_ok-put_number-2.ensures.tokens, c.in_ok-put_number.ensures.tokens, c.from.ensures, c.requires, append_assoc))
    c.put_flag.ensures.tokens
