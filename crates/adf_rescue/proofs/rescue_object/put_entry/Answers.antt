use Rattle.std.proofs.Common.{append_assoc, ◌∙◌}
use Rattle.std.proofs.lemmas.Result.{on_ok_weaker}
use Rattle.adf_rescue.proofs.rescue_object.put_entry.Goals as goal

pub returns-clause-tokens : goal.returns-clause-tokens
returns-clause-tokens c =
    on_ok_weaker c.end_object.result
    (λ last. last ∙ simp (c.in_ok-put_holes.ensures.tokens, c.in_ok-put_detail.ensures.tokens, c.in_ok-put_state.ensures.tokens, c.in_ok-begin_object.ensures.ok, append_assoc))
    c.end_object.ensures.ok
