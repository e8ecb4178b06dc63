use Rattle.adf_where.proofs.Common.{append_assoc, ◌∙◌, on_ok_weaker}
use Rattle.adf_where.proofs.own_object.put_object.Goals as goal

pub returns-clause-tokens : goal.returns-clause-tokens
returns-clause-tokens c =
    on_ok_weaker c.end_object.result
    (λ last. last ∙ simp (c.in_ok-end_array.ensures.ok, c.in_ok-put_blocks.ensures.tokens, c.in_ok-begin_array.ensures.ok, c.in_ok-key.ensures.ok, c.in_ok-begin_object.ensures.ok, append_assoc))
    c.end_object.ensures.ok
