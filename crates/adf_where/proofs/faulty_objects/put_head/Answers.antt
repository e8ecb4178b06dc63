use Rattle.adf_where.proofs.Common.{on_ok_weaker, behind}
use Rattle.adf_where.proofs.faulty_objects.put_head.Goals as goal

pub returns-clause-tokens : goal.returns-clause-tokens
returns-clause-tokens c =
    on_ok_weaker c.begin_array.result
    (λ last.
    behind c.args.writer.now.tokens _ _ _ _ c.in_ok-begin_object.ensures.ok
    (behind c.begin_object.new.self.tokens _ _ _ _ c.in_ok-put_place.ensures.tokens
    (behind c.put_place.new.writer.tokens _ _ _ _ c.in_ok-key.ensures.ok last)))
    c.begin_array.ensures.ok
