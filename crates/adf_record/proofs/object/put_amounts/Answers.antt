use Rattle.adf_record.proofs.Common.{◌≡◌, ℕ, List, [], ◌∷◌, ◌++◌, codes, decimal, ap, ◌∙◌, on_ok_weaker, Token, key, number}
use Rattle.adf_record.proofs.Tokens.{behind}
use Rattle.adf_record.proofs.object.put_amounts.Goals as goal

pub returns-clause-tokens : goal.returns-clause-tokens
returns-clause-tokens c =
    let facts = c.args.facts.now in
    let old = c.args.writer.now.tokens in
    let new = c.put_number-4.new.writer.tokens in
    let files : List Token = key (codes "files") ∷ number (decimal facts.counts.files) ∷ [] in
    let directories : List Token = key (codes "directories") ∷ number (decimal facts.counts.directories) ∷ [] in
    let used : List Token = key (codes "used") ∷ number (decimal facts.used) ∷ [] in
    let free : List Token = key (codes "free") ∷ number (decimal facts.free) ∷ [] in
    let third : c.put_number-3.new.writer.tokens ≡ c.put_number-2.new.writer.tokens ++ used =
    c.in_ok-put_number-3.ensures.tokens ∙ ap (λ (n : ℕ). c.put_number-2.new.writer.tokens ++ key (codes "used") ∷ number (decimal n) ∷ []) c.from.ensures in
    on_ok_weaker c.put_number-4.result
    (λ last.
    behind old c.put_number.new.writer.tokens new files (directories ++ (used ++ free)) c.in_ok-put_number.ensures.tokens
    (behind c.put_number.new.writer.tokens c.put_number-2.new.writer.tokens new directories (used ++ free) c.in_ok-put_number-2.ensures.tokens
    (behind c.put_number-2.new.writer.tokens c.put_number-3.new.writer.tokens new used free third
    (last ∙ ap (λ (n : ℕ). c.put_number-3.new.writer.tokens ++ key (codes "free") ∷ number (decimal n) ∷ []) c.from-2.ensures))))
    c.put_number-4.ensures.tokens
