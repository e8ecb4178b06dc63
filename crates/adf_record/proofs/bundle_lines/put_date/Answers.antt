use Rattle.adf_record.proofs.Common.{ℕ, List, [], ◌∷◌, ◌++◌, ap, ◌∙◌, string_bytes, on_ok_weaker, key, string}
use Rattle.adf_record.proofs.bundle_lines.put_date.Goals as goal

pub returns-clause-tokens : goal.returns-clause-tokens
returns-clause-tokens c =
    on_ok_weaker c.put_text.result
    (λ put. (
      string_bytes c.in_ok-text.text,
      c.in_ok-text.ensures,
      put ∙ ap (λ (w : List ℕ). c.args.writer.now.tokens ++ key c.args.name.now ∷ string w ∷ []) c.as_str.ensures.value,
    ))
    c.put_text.ensures.tokens
