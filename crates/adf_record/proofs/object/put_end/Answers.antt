use Rattle.adf_record.proofs.Common.{ℕ, List, [], ◌∷◌, ◌++◌, codes, ap, ◌∙◌, on_ok_weaker, Token, key, string, boot_word}
use Rattle.adf_record.proofs.Tokens.{behind}
use Rattle.adf_record.proofs.object.put_end.Goals as goal

pub returns-clause-tokens : goal.returns-clause-tokens
returns-clause-tokens c =
    let old = c.args.writer.now.tokens in
    let new = c.put_text-3.new.writer.tokens in
    let created : List Token = key (codes "created") ∷ string c.args.created.now ∷ [] in
    let changed : List Token = key (codes "changed") ∷ string c.args.changed.now ∷ [] in
    let boot : List Token = key (codes "boot") ∷ string (boot_word c.args.facts.now.boot) ∷ [] in
    on_ok_weaker c.put_text-3.result
    (λ last.
    behind old c.put_text.new.writer.tokens new created (changed ++ boot) c.in_ok-put_text.ensures.tokens
    (behind c.put_text.new.writer.tokens c.put_text-2.new.writer.tokens new changed boot c.in_ok-put_text-2.ensures.tokens
    (last ∙ ap (λ (word : List ℕ). c.put_text-2.new.writer.tokens ++ key (codes "boot") ∷ string word ∷ []) c.boot_word.ensures)))
    c.put_text-3.ensures.tokens
