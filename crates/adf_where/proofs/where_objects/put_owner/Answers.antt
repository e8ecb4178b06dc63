use Rattle.adf_where.proofs.Common.{on_ok_weaker, behind}
use Rattle.adf_record.proofs.Written.{member_is, text_is}
use Rattle.adf_where.proofs.where_objects.put_owner.Goals as goal

pub returns-clause-tokens : goal.returns-clause-tokens
returns-clause-tokens c =
    on_ok_weaker c.put_number-3.result
    (λ last.
    behind c.args.writer.now.tokens _ _ _ _ (text_is c.args.writer.now.tokens _ _ _ _ c.in_ok-put_text.ensures.tokens c.owner_word.ensures)
    (behind c.put_text.new.writer.tokens _ _ _ _ c.in_ok-put_path.ensures.tokens
    (behind c.put_path.new.writer.tokens _ _ _ _ (member_is c.put_path.new.writer.tokens _ _ _ _ c.in_ok-put_number.ensures.tokens c.position_of.ensures)
    (behind c.put_number.new.writer.tokens _ _ _ _ (member_is c.put_number.new.writer.tokens _ _ _ _ c.in_ok-put_number-2.ensures.tokens c.first_of.ensures)
    (member_is c.put_number-2.new.writer.tokens _ _ _ _ last c.last_of.ensures)))))
    c.put_number-3.ensures.tokens
