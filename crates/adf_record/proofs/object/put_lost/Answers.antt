use Rattle.adf_record.proofs.Common.{List, [], ◌∷◌, ◌++◌, codes, decimal, on_ok_weaker, Token, key, number}
use Rattle.adf_record.proofs.Tokens.{behind}
use Rattle.adf_record.proofs.object.put_lost.Goals as goal

pub returns-clause-tokens : goal.returns-clause-tokens
returns-clause-tokens c =
    let lost = c.args.facts.now.lost in
    let old = c.args.writer.now.tokens in
    let new = c.put_number-3.new.writer.tokens in
    let blocks : List Token = key (codes "lost") ∷ number (decimal lost.blocks) ∷ [] in
    let files : List Token = key (codes "lost_files") ∷ number (decimal lost.files) ∷ [] in
    let directories : List Token = key (codes "lost_directories") ∷ number (decimal lost.directories) ∷ [] in
    on_ok_weaker c.put_number-3.result
    (λ last.
    behind old c.put_number.new.writer.tokens new blocks (files ++ directories) c.in_ok-put_number.ensures.tokens
    (behind c.put_number.new.writer.tokens c.put_number-2.new.writer.tokens new files directories c.in_ok-put_number-2.ensures.tokens last))
    c.put_number-3.ensures.tokens
