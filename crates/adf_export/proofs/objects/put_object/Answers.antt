use Rattle.std.proofs.Common.{codes}
use Rattle.adf_export.proofs.Common.{ℕ, List, [], ◌∷◌, ◌++◌, ap, ◌∙◌, on_ok_weaker, behind}
use Rattle.json.specs.Token.{key, string}
use Rattle.adf_text.specs.Letters.{letters}
use Rattle.adf_export.proofs.objects.put_object.Goals as goal

pub returns-clause-tokens : goal.returns-clause-tokens
returns-clause-tokens c =
    let comment = c.in_ok-put_comment.ensures.tokens ∙ ap (λ (bytes : List ℕ). c.put_text-2.new.writer.tokens ++ key (codes "comment") ∷ string (letters bytes) ∷ []) c.bytes.ensures.value in
    on_ok_weaker c.end_object.result
    (λ last.
    behind c.args.writer.now.tokens _ _ _ _ c.in_ok-begin_object.ensures.ok
    (behind c.begin_object.new.self.tokens _ _ _ _ c.in_ok-put_text.ensures.tokens
    (behind c.put_text.new.writer.tokens _ _ _ _ c.in_ok-put_measures.ensures.tokens
    (behind c.put_measures.new.writer.tokens _ _ _ _ c.in_ok-put_text-2.ensures.tokens
    (behind c.put_text-2.new.writer.tokens _ _ _ _ comment last)))))
    c.end_object.ensures.ok
