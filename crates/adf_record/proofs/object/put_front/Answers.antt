use Rattle.adf_record.proofs.Common.{◌≡◌, ℕ, List, [], ◌∷◌, ◌++◌, codes, decimal, ap, ◌∙◌, on_ok_weaker, Token, boolean, key, number, string, kind_word}
use Rattle.adf_text.specs.Letters.{letters}
use Rattle.adf_record.proofs.Tokens.{behind}
use Rattle.adf_record.proofs.object.put_front.Goals as goal

pub returns-clause-tokens : goal.returns-clause-tokens
returns-clause-tokens c =
    let facts = c.args.facts.now in
    let old = c.args.writer.now.tokens in
    let new = c.put_flag.new.writer.tokens in
    let name : List Token = key (codes "name") ∷ string (letters facts.label) ∷ [] in
    let kind : List Token = key (codes "kind") ∷ string (kind_word facts.format) ∷ [] in
    let blocks : List Token = key (codes "blocks") ∷ number (decimal facts.blocks) ∷ [] in
    let validated : List Token = key (codes "validated") ∷ boolean facts.rebuilt ∷ [] in
    let first : c.put_text.new.writer.tokens ≡ old ++ name =
    c.in_ok-put_text.ensures.tokens
    ∙ ap (λ (w : List ℕ). old ++ key (codes "name") ∷ string w ∷ []) (c.as_str.ensures.value ∙ c.in_ok-label.ensures ∙ ap letters c.bytes.ensures.value) in
    let second : c.put_text-2.new.writer.tokens ≡ c.put_text.new.writer.tokens ++ kind =
    c.in_ok-put_text-2.ensures.tokens ∙ ap (λ (w : List ℕ). c.put_text.new.writer.tokens ++ key (codes "kind") ∷ string w ∷ []) c.kind_word.ensures in
    let third : c.put_number.new.writer.tokens ≡ c.put_text-2.new.writer.tokens ++ blocks =
    c.in_ok-put_number.ensures.tokens ∙ ap (λ (n : ℕ). c.put_text-2.new.writer.tokens ++ key (codes "blocks") ∷ number (decimal n) ∷ []) c.from.ensures in
    on_ok_weaker c.put_flag.result
    (λ last.
    behind old c.put_text.new.writer.tokens new name (kind ++ (blocks ++ validated)) first
    (behind c.put_text.new.writer.tokens c.put_text-2.new.writer.tokens new kind (blocks ++ validated) second
    (behind c.put_text-2.new.writer.tokens c.put_number.new.writer.tokens new blocks validated third last)))
    c.put_flag.ensures.tokens
