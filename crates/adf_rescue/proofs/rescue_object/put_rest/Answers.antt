use Rattle.std.proofs.Common.{append_assoc, ◌∙◌}
use Rattle.std.proofs.lemmas.Result.{on_ok_weaker}
use Rattle.adf_rescue.proofs.rescue_object.put_rest.Goals as goal

pub returns-clause-tokens : goal.returns-clause-tokens
returns-clause-tokens c =
    on_ok_weaker c.end_object.result
    (λ last. last ∙ simp (c.in_ok-put_flag.ensures.tokens, c.in_ok-end_array-2.ensures.ok, c.in_ok-put_blocks.ensures.tokens, c.in_ok-begin_array.ensures.ok, c.in_ok-key.ensures.ok, c.in_ok-put_number.ensures.tokens, c.in_ok-end_array.ensures.ok, append_assoc))
    c.end_object.ensures.ok
