use Rattle.adf_where.proofs.Common.{on_ok_weaker, behind}
use Rattle.adf_where.proofs.faulty_objects.put_tail.Goals as goal

pub returns-clause-tokens : goal.returns-clause-tokens
returns-clause-tokens c =
    on_ok_weaker c.end_object.result
    (λ last.
    behind c.args.writer.now.tokens _ _ _ _ c.in_ok-end_array.ensures.ok
    (behind c.end_array.new.self.tokens _ _ _ _ c.in_ok-key.ensures.ok
    (behind c.key.new.self.tokens _ _ _ _ c.in_ok-put_array.ensures.tokens
    (behind c.put_array.new.writer.tokens _ _ _ _ c.in_ok-put_flag.ensures.tokens
    (behind c.put_flag.new.writer.tokens _ _ _ _ c.in_ok-put_unread.ensures.tokens last)))))
    c.end_object.ensures.ok
