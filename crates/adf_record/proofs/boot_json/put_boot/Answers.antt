use Rattle.adf_record.proofs.Common.{◌∙◌, on_ok_weaker}
use Rattle.std.proofs.Common.{append_assoc}
use Rattle.adf_record.proofs.boot_json.put_boot.Goals as goal

pub returns-clause-tokens : goal.returns-clause-tokens
returns-clause-tokens c =
    on_ok_weaker c.end_object.result
    (λ last. last ∙ simp (c.in_ok-put_text-2.ensures.tokens, c.in_ok-put_text.ensures.tokens, c.in_ok-begin_object.ensures.ok, c.boot_word.ensures, append_assoc))
    c.end_object.ensures.ok
