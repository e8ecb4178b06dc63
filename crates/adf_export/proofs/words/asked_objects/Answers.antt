use Rattle.adf_export.proofs.Common.{map, sym, ◌∙◌, Tree, Stands, AreAsked, LeadTo, IfOk-weaker}
use Rattle.adf_export.proofs.Leading.{asked_some, text_of}
use Rattle.adf_export.proofs.words.asked_objects.Goals as goal

pub returns-clause-asked : goal.returns-clause-asked
returns-clause-asked c =
    IfOk-weaker c.locate_words.result
    (λ keys. (t : Tree) → Stands c.args.volume.now.image t → LeadTo t (map text_of c.args.words.now) keys.items)
    (λ keys. (t : Tree) → Stands c.args.volume.now.image t → AreAsked t (map text_of c.args.words.now) keys.items)
    (λ keys lead t s. asked_some t text_of c.args.words.now keys.items (sym c.is_empty.ensures ∙ c.if-is_empty.false) (lead t s))
    c.locate_words.ensures.lead
