use Rattle.std.proofs.Common.{append_assoc, ◌∙◌}
use Rattle.std.proofs.lemmas.Result.{on_ok_weaker}
use Rattle.ados_validate.proofs.said.put_numbers.Goals as goal

pub returns-clause-tokens : goal.returns-clause-tokens
returns-clause-tokens c =
    on_ok_weaker c.end_object.result
    (λ last. last ∙ simp (c.in_ok-put_number-2.ensures.tokens, c.in_ok-put_number.ensures.tokens, c.in_ok-begin_object.ensures.ok, c.from.ensures, c.from-2.ensures, append_assoc))
    c.end_object.ensures.ok
