use Rattle.adf_export.proofs.Common.{◌≡◌, ℕ, List, Ok, sym, ap, ◌∙◌, subst, chars, ObjectNotFound, Leads, StopsAt}
use Rattle.adf_export.proofs.Leading.{refused_word}
use Rattle.adf_text.proofs.LettersLemmas.{All-bytes}
use Rattle.adf_export.proofs.words.locate_path.Goals as goal

pub returns-in-Ok-clause-leads : goal.returns-in-Ok-clause-leads
returns-in-Ok-clause-leads c = λ t s.
    let same : c.args.path.now ≡ chars c.args.word.now = sym (c.letters_come_back.ensures c.args.path.now (All-bytes c.args.path.now c.type_inv.path)) ∙ ap chars c.requires in
    subst (λ (path : List ℕ). Leads t path ObjectNotFound (Ok c.in-Ok.key)) same (c.in-Ok.ensures.leads t s)

pub returns-in-Err-clause-fault : goal.returns-in-Err-clause-fault
returns-in-Err-clause-fault c = λ t s.
    let same : c.args.path.now ≡ chars c.args.word.now = sym (c.letters_come_back.ensures c.args.path.now (All-bytes c.args.path.now c.type_inv.path)) ∙ ap chars c.requires in
    refused_word t c.args.word.now c.in-Err.stopped.error c.in-Err.stopped.at c.refused.result c.refused.ensures
    (subst (λ (path : List ℕ). StopsAt t path ObjectNotFound c.in-Err.stopped) same (c.in-Err.ensures.leads t s))
