use Rattle.adf_record.proofs.Common.{ℕ, List, [], ◌∷◌, ◌++◌, ap, ◌∙◌, on_ok_weaker, key, string}
use Rattle.adf_record.proofs.bundle_lines.put_letters.Goals as goal

pub returns-clause-tokens : goal.returns-clause-tokens
returns-clause-tokens c =
    on_ok_weaker c.put_text.result
    (λ put. put ∙ ap (λ (w : List ℕ). c.args.writer.now.tokens ++ key c.args.name.now ∷ string w ∷ []) (c.as_str.ensures.value ∙ c.in_ok-letters.ensures))
    c.put_text.ensures.tokens
