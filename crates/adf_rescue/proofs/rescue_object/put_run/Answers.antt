use Rattle.std.proofs.Common.{append_assoc, ◌∙◌}
use Rattle.std.proofs.lemmas.Result.{on_ok_weaker}
use Rattle.adf_rescue.proofs.rescue_object.put_run.Goals as goal

pub returns-clause-tokens : goal.returns-clause-tokens
returns-clause-tokens c =
    on_ok_weaker c.end_object.result
    (λ last. last ∙ simp (c.in_ok-put_number-4.ensures.tokens, c.in_ok-put_number-3.ensures.tokens, c.in_ok-put_number-2.ensures.tokens, c.in_ok-put_number.ensures.tokens, c.in_ok-begin_object.ensures.ok, c.first_byte.ensures, c.last_byte.ensures, c.from.ensures, c.from-2.ensures, append_assoc))
    c.end_object.ensures.ok
