use Rattle.std.proofs.Common.{append_assoc, ◌∙◌}
use Rattle.std.proofs.lemmas.Result.{on_ok_weaker}
use Rattle.adf_rescue.proofs.rescue_object.put_holes.Goals as goal

pub returns-clause-tokens : goal.returns-clause-tokens
returns-clause-tokens c =
    on_ok_weaker c.end_array.result
    (λ last. last ∙ simp (c.in_ok-put_runs.ensures.tokens, c.in_ok-begin_array.ensures.ok, c.in_ok-key.ensures.ok, append_assoc))
    c.end_array.ensures.ok
