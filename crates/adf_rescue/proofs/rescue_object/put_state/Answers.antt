use Rattle.std.proofs.Common.{append_assoc, ◌∙◌}
use Rattle.std.proofs.lemmas.Result.{on_ok_weaker}
use Rattle.adf_rescue.proofs.rescue_object.put_state.Goals as goal

pub returns-clause-tokens : goal.returns-clause-tokens
returns-clause-tokens c =
    on_ok_weaker c.put_flag-2.result
    (λ last. last ∙ simp (c.in_ok-put_number.ensures.tokens, c.in_ok-put_flag.ensures.tokens, c.in_ok-put_text-2.ensures.tokens, c.in_ok-put_text.ensures.tokens, c.state_word.ensures, c.from.ensures, c.missing.ensures, c.is_cut.ensures, append_assoc))
    c.put_flag-2.ensures.tokens
