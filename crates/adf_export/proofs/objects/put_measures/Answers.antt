use Rattle.adf_export.proofs.Common.{◌∙◌, on_ok_weaker, behind}
use Rattle.adf_record.proofs.Written.{number_is, text_is}
use Rattle.adf_export.proofs.objects.put_measures.Goals as goal

pub returns-clause-tokens : goal.returns-clause-tokens
returns-clause-tokens c =
    on_ok_weaker c.put_number-4.result
    (λ last.
    behind c.args.writer.now.tokens _ _ _ _ (text_is c.args.writer.now.tokens _ _ _ _ c.in_ok-put_text.ensures.tokens c.type_word.ensures)
    (behind c.put_text.new.writer.tokens _ _ _ _ (number_is c.put_text.new.writer.tokens _ _ _ _ c.in_ok-put_number.ensures.tokens c.from.ensures)
    (behind c.put_number.new.writer.tokens _ _ _ _ (number_is c.put_number.new.writer.tokens _ _ _ _ c.in_ok-put_number-2.ensures.tokens c.from-2.ensures)
    (behind c.put_number-2.new.writer.tokens _ _ _ _ (number_is c.put_number-2.new.writer.tokens _ _ _ _ c.in_ok-put_number-3.ensures.tokens c.from-3.ensures)
    (number_is c.put_number-3.new.writer.tokens _ _ _ _ last (c.from-4.ensures ∙ c.bits.ensures))))))
    c.put_number-4.ensures.tokens
