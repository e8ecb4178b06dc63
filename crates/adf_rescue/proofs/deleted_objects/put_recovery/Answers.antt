use Rattle.std.proofs.Common.{append_assoc, ◌∙◌}
use Rattle.std.proofs.lemmas.Result.{on_ok_weaker}
use Rattle.adf_rescue.proofs.deleted_objects.put_recovery.Goals as goal

pub returns-clause-tokens : goal.returns-clause-tokens
returns-clause-tokens c =
    on_ok_weaker c.put_number-3.result
    (λ last. last ∙ simp (c.in_ok-put_number-2.ensures.tokens, c.in_ok-put_number.ensures.tokens, c.in_ok-put_text.ensures.tokens, c.recovery_word.ensures, c.blocks_of.ensures, c.taken_of.ensures, c.by_of.ensures, append_assoc))
    c.put_number-3.ensures.tokens
