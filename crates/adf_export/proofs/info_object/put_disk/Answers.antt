use Rattle.adf_export.proofs.Common.{◌∙◌}
use Rattle.std.proofs.Common.{append_assoc}
use Rattle.std.proofs.lemmas.Result.{on_ok_weaker}
use Rattle.adf_export.proofs.info_object.put_disk.Goals as goal

pub returns-clause-tokens : goal.returns-clause-tokens
returns-clause-tokens c =
    on_ok_weaker c.put_number-5.result
    (λ last. last ∙ simp (c.in_ok-put_number-4.ensures.tokens, c.in_ok-put_number-3.ensures.tokens, c.in_ok-put_number-2.ensures.tokens, c.in_ok-put_number.ensures.tokens, c.from.ensures, c.from-2.ensures, c.from-3.ensures, c.from-4.ensures, c.from-5.ensures, append_assoc))
    c.put_number-5.ensures.tokens
